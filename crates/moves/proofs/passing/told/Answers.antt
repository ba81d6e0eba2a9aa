-- `moves::passing::told` meets its contract: all symbols taken and no codeword open, or the open one is bad.
use Rattle.std.proofs.Common.{◌≡◌, sym, ap, ◌∙◌, [], ℕ, ◌≤◌, ◌<◌, ◌⊎◌, inl, inr, length, drop, drop_of_length-le, Result, Err, arith}
use lib.Seq.{length-take-le, take-take}
use Rattle.symbols.specs.Paper.Symbols.{symbols_of}
use Rattle.reading.specs.declared.codewords.BadWord.{BadWord}
use Rattle.moves.specs.Helpers.States.{open_from, Stuck}
use Rattle.reading.specs.Helpers.Codewords.{row_of}
use Rattle.reading.specs.declared.packed.Packed.{Packed}
use Rattle.moves.proofs.Laws.States.{stuck_end}
use Rattle.moves.proofs.Laws.Moves.{here_end, here_bad}
use Rattle.moves.proofs.passing.told.Goals as goal

module _ (s : Packed) {at : ℕ} (in-row : at ≤ s.h) where
  long : length (row_of s) ≡ s.h
  long = length-take-le s.h (symbols_of s.ranks.good.code.k s.buf.now) s.held

  -- the open codeword is bad
  stuck : {x : ℕ} → (at < s.h → Stuck s.ranks.good.code s.ranks.sigma x (drop at (row_of s))) → ((at ≡ s.h) × (x ≡ 0 → ⊥)) ⊎ (at ≡ s.h → ⊥) → Stuck s.ranks.good.code s.ranks.sigma x (drop at (row_of s))
  stuck {x} w (inl (e, more)) =
      let none : drop at (row_of s) ≡ [] = drop_of_length-le (row_of s) {i = at} (omega (arith, long, e)) in
      rw none (stuck_end s.ranks.good.code s.ranks.good.good s.ranks.sigma x (omega (arith, more)))
  stuck w (inr less) = w (omega (arith, less))

pub returns-then-way-eq0 : goal.returns-then-way-eq0
returns-then-way-eq0 c =
    let s = c.args.packed.now in
    let (p, z, _) = c.requires in
    sym (here_end s.ranks.good.code s.ranks.sigma s.ranks.good.good (row_of s) z c.if-way-eq0.true (omega (arith, long s p, c.if-way-packed.true)))

pub opened-requires : goal.opened-requires
opened-requires c = omega (arith, c.requires.0, c.args.packed.now.held)

pub returns : goal.returns
returns c =
    let s = c.args.packed.now in
    let (p, z, w) = c.requires in
    let e = sym (take-take c.args.way.at s.h (symbols_of s.ranks.good.code.k s.buf.now) p) in
    ap {B = Result ℕ BadWord} (λ (n : ℕ). Err (record { first = n })) (c.opened.ensures ∙ ap (open_from s.ranks.good.code 0 0) e)
    ∙ sym (here_bad s.ranks.good.code s.ranks.sigma s.ranks.good.good (row_of s) z (stuck s p w c.else-way-packed.either))
