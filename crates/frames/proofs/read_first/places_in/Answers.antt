-- `frames::read_first::places_in` meets its contract: the characters before place i are laid over zeros.
use Rattle.std.proofs.Common.{◌≡◌, refl, sym, ◌∙◌, ap₂, ℕ, min, List, ◌++◌, length, take, drop, set, length-drop, length-take, arith}
use Rattle.std.proofs.Math.Seq.{get_or-drop}
use Rattle.std.proofs.lemmas.List.{take_min}
use Rattle.ground.specs.Paper.Rows.{zeros, padded}
use Rattle.ground.specs.Laws.Rows.{length_zeros, padded_over}
use Rattle.ground.specs.Laws.Runs.{front_more}
use Rattle.frames.specs.Paper.Frames.{bytes_in, first_head}
use Rattle.frames.proofs.read_first.places_in.Goals as goal

pub loop-i-init : goal.loop-i-init
unfolding zeros
loop-i-init c = refl

pub byte_at-requires : goal.byte_at-requires
byte_at-requires c = (c.requires.0, omega (arith, c.requires.1))

pub loop-i-preserved : goal.loop-i-preserved
loop-i-preserved c =
    let bytes = bytes_in c.args.line.now in
    let xs = drop first_head bytes in
    let i = c.loop-i.i in
    ap₂ (λ (row : List ℕ) (b : ℕ). set row i b) c.loop-i.invariant (c.byte_at.ensures ∙ sym (get_or-drop first_head bytes i 0))
    ∙ front_more (zeros 256) xs i (omega (arith, length-drop first_head bytes, c.requires.1)) (omega (arith, length_zeros 256))

-- as many as there are, or 256
laid : (xs : List ℕ) (i : ℕ) → i ≡ min (length xs) 256 → take i xs ++ drop i (zeros 256) ≡ padded 256 (take 256 xs)
laid xs i e =
    let n : length (take 256 xs) ≡ min 256 (length xs) = length-take 256 xs in
    let m : i ≡ min 256 (length xs) = omega arith in
    rw m (rw (take_min 256 xs, ← n) (padded_over 256 (take 256 xs)))

pub returns : goal.returns
returns c =
    let bytes = bytes_in c.args.line.now in
    c.loop-i.invariant ∙ laid (drop first_head bytes) c.loop-i.i (omega (arith, length-drop first_head bytes, c.requires.1))
