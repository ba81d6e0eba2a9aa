-- `jump::windows::lasts` meets its contract.
use Rattle.std.proofs.Common.{◌≡◌, ◌≢◌, List, ℕ, ◌+◌, ◌<◌, length, get_or, set, sym, ap, ◌∙◌, arith, length-set, get_or-set_same, get_or-set_other, below_more}
use Rattle.symbols.specs.Laws.Width.{per_few}
use Rattle.jump.specs.Helpers.Windows.{number_from}
use Rattle.jump.specs.Laws.Sought.{sought_width}
use Rattle.jump.specs.Laws.Table.{byte_number}
use Rattle.jump.proofs.windows.lasts.Goals as goal

-- one byte more of the row
one_more : (last : List ℕ) (o x : ℕ) (byte : ℕ → ℕ) → o < length last → x ≡ byte o → ((i : ℕ) → i < o → get_or last i 0 ≡ byte i)
    → (i : ℕ) → i < o + 1 → get_or (set last o x) i 0 ≡ byte i
one_more last o x byte lt e before =
    below_more _ o (λ i h. let ne : i ≢ o = omega arith in rw get_or-set_other (before i h)) (rw get_or-set_same e)

pub per_byte-per-requires : goal.per_byte-per-requires
per_byte-per-requires c = sought_width c.args.sought.now

pub bounds-last-o : goal.bounds-last-o
bounds-last-o c = omega (arith, c.loop-o-test.true, c.per_byte-per.ensures, per_few (sought_width c.args.sought.now))

pub loop-o-preserved : goal.loop-o-preserved
loop-o-preserved c = let s = c.args.sought.now in (
  one_more c.loop-o.last c.loop-o.o c.number_from.result _ (omega (arith, c.loop-o.invariant.1, c.loop-o-test.true, c.per_byte-per.ensures, per_few (sought_width s)))
      (c.number_from.ensures ∙ ap (number_from s.good.code.k s.symbols.now _) c.per_byte-per.ensures ∙ sym (byte_number s.good.code.k s.symbols.now _))
      c.loop-o.invariant.0,
  length-set c.loop-o.last c.loop-o.o c.number_from.result ∙ c.loop-o.invariant.1,
)
