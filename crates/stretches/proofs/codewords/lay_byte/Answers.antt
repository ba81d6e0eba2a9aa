-- `stretches::codewords::lay_byte` meets its contract: the places before t hold their symbols.
use Rattle.std.proofs.Common.{◌≡◌, ℕ, ◌+◌, ◌%◌, ◌<◌, ◌≢◌, length, ap, ◌∙◌, arith, mod-eq_of_lt, length-set, get_or-set_other, get_or-set_same, below_more}
use Rattle.symbols.specs.Paper.Symbols.{per, shift}
use Rattle.symbols.specs.Helpers.Bits.{cut_out}
use Rattle.symbols.specs.Laws.Width.{narrow, wide, shift_within}
use Rattle.stretches.proofs.codewords.lay_byte.Goals as goal

-- of the place t of a symbol in its byte
shift_is : (k : ℕ) {t per_k low : ℕ} → t < per_k → per_k ≡ per k → low ≡ shift k (t % per k) → low ≡ shift k t
shift_is k h p e = e ∙ ap (shift k) (mod-eq_of_lt (omega arith))

pub cut_out-requires : goal.cut_out-requires
cut_out-requires c =
    let w = c.requires.0 in
    let low = shift_is c.args.k c.loop-t-test.true c.per_byte-t-end.ensures c.shift_of.ensures in
    (narrow w, omega (arith, low, shift_within w {t = c.loop-t.t} (omega arith), wide w))

pub loop-t-preserved : goal.loop-t-preserved
loop-t-preserved c =
    let (long, before, symbols) = c.loop-t.invariant in
    let here : c.args.at + c.loop-t.t < length c.loop-t.row = omega arith in
    let low = shift_is c.args.k c.loop-t-test.true c.per_byte-t-end.ensures c.shift_of.ensures in (
      length-set _ _ _ ∙ long,
      λ i h. let other : i ≢ c.args.at + c.loop-t.t = omega arith in rw get_or-set_other (before i h),
      below_more _ _
          (λ u h. let other : c.args.at + u ≢ c.args.at + c.loop-t.t = omega arith in rw get_or-set_other (symbols u h))
          (rw get_or-set_same (c.cut_out.ensures ∙ ap (λ (s : ℕ). cut_out c.args.k s c.args.b) low)),
    )
