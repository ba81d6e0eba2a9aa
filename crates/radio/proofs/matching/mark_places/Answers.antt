-- `radio::matching::mark_places` meets its contract: the masks are those of the characters before place j.
use Rattle.std.proofs.Common.{◌≡◌, List, [], ℕ, ◌+◌, ◌*◌, ◌%◌, ◌^◌, ◌≤◌, ◌<◌, length, take, get_or, set, refl, ap, ◌∙◌, arith, one-mul, add-one, pow_mono, shl_exact, take-suc, length-take-le, take_all}
use Rattle.ground.specs.Paper.Rows.{zeros}
use Rattle.ground.specs.Laws.Rows.{length_tab, tab_at, tab_zeros}
use Rattle.texts.specs.Paper.Hits.{most_pattern}
use Rattle.radio.specs.Helpers.Masks.{mask_of, masks_of}
use Rattle.radio.specs.Laws.Matching.{mask_low, masks_more}
use Rattle.radio.proofs.matching.mark_places.Goals as goal

-- bit j, as the code makes it
abbrev bit : ℕ → ℕ
bit j = (1 * 2 ^ j) % 2 ^ 64

bit_is : (j : ℕ) → j < most_pattern → bit j ≡ 2 ^ j
bit_is j h = shl_exact 1 j 64 (omega arith) (omega arith) ∙ one-mul (2 ^ j)

none_yet : {masks : List ℕ} → masks ≡ zeros 256 → masks ≡ masks_of []
unfolding mask_of
none_yet e = e ∙ tab_zeros (mask_of []) 256 (λ b. refl)

-- as many entries as there are byte values
entries : (q : List ℕ) {masks : List ℕ} → masks ≡ masks_of q → length masks ≡ 256
entries q e = ap length e ∙ length_tab (mask_of q) 0 256

-- character b in place j
module _ (pattern : List ℕ) {masks : List ℕ} (j b : ℕ) (few : length pattern ≤ most_pattern) (inside : j < length pattern) (small : b < 256) (row : masks ≡ masks_of (take j pattern)) where
  long : length (take j pattern) ≡ j
  long = length-take-le j pattern (omega arith)

  place : j < most_pattern
  place = omega arith

  room : get_or masks b 0 + bit j < 2 ^ 64
  room =
      let inside_word : j ≤ 63 = omega (arith, place) in
      rw (row, tab_at (mask_of (take j pattern)) 256 b small)
      (omega (arith, bit_is j place, mask_low (take j pattern) b, ap (λ (k : ℕ). 2 ^ k) long, pow_mono {j = 63} inside_word))

  more : b ≡ get_or pattern j 0 → set masks b (get_or masks b 0 + bit j) ≡ masks_of (take (j + 1) pattern)
  more e = rw (row, bit_is j place, add-one, take-suc pattern j 0 inside, ← e) (rw long at (masks_more (take j pattern) b small))

pub loop-j-init : goal.loop-j-init
loop-j-init c = none_yet c.requires.1

pub bounds-masks-from : goal.bounds-masks-from
bounds-masks-from c = omega (arith, entries _ c.loop-j.invariant)

pub overflow_add-masks : goal.overflow_add-masks
overflow_add-masks c = omega (arith, room c.args.pattern.now c.loop-j.j c.from.result c.requires.0 c.loop-j-test.true (omega arith) c.loop-j.invariant)

pub bounds-masks-from-in-loop-j : goal.bounds-masks-from-in-loop-j
bounds-masks-from-in-loop-j c = omega (arith, entries _ c.loop-j.invariant)

pub loop-j-preserved : goal.loop-j-preserved
loop-j-preserved c = more c.args.pattern.now c.loop-j.j c.from.result c.requires.0 c.loop-j-test.true (omega arith) c.loop-j.invariant c.from.ensures

pub returns : goal.returns
returns c = c.loop-j.invariant ∙ ap masks_of (take_all c.loop-j.j c.args.pattern.now c.loop-j-test.false)
