-- What is named are the hits: first those whose beginning ended just before the text, if it goes on as they do, and then the text's own.
use Rattle.std.specs.Prelude.{◌≡◌, refl, Bool, true, false, cond, ◌&&◌, List, [], ◌∷◌, ◌++◌, ℕ, zero, suc, ◌+◌, ◌-◌, ◌*◌, ◌/◌, ◌%◌, ◌^◌, ◌≤◌, ◌<◌, leb, eqb, length}
use Rattle.std.proofs.Common.{sym, ap, ap₂, ◌∙◌, append_assoc, mod-lt, pow-suc, add-one, arith, leb→le, le→leb, pow_pos}
use Rattle.std.proofs.Math.Bool.{and-false}
use Rattle.std.proofs.Math.Nat.{sub-zero, suc-sub-suc}
use Rattle.std.proofs.Math.Pow.{field, mod-mod-pow}
use Rattle.ground.specs.Laws.Tests.{same_test}
use Rattle.texts.specs.Paper.Hits.{stands, hits_from, hits}
use Rattle.radio.specs.Paper.Matching.{grown, advanced, named}
use Rattle.radio.specs.Laws.Matching.{grown_low}

-- a number, if a test passes
abbrev one : Bool → ℕ → List ℕ
one test i = cond test (i ∷ []) []

one_ahead : (test : Bool) (i : ℕ) (later : List ℕ) → cond test (i ∷ later) later ≡ one test i ++ later
one_ahead true i later = refl
one_ahead false i later = refl

abbrev odd : ℕ → Bool
odd bits = eqb (bits % 2) 1

-- where the beginnings start that the bits have, the longest first, if the text goes on as they do: that of bit 0 starts at i, and p is what it lacks of the
-- pattern
unfoldable opened : ℕ → List ℕ → ℕ → List ℕ → List ℕ
opened bits [] i text = one (odd bits && stands [] text) i
opened bits (x ∷ p) i text = opened (bits / 2) p (i - 1) text ++ one (odd bits && stands (x ∷ p) text) i

-- no beginning, or no text to go on
opened_none : (p : List ℕ) (i : ℕ) (text : List ℕ) → opened 0 p i text ≡ []
unfolding opened
opened_none [] i text = refl
opened_none (x ∷ p) i text = rw (opened_none p (i - 1) text)

opened_end : (p : List ℕ) (bits i : ℕ) → bits < 2 ^ length p → opened bits p i [] ≡ []
unfolding opened stands
opened_end [] bits i h = let z : bits ≡ 0 = omega arith in rw z
opened_end (x ∷ p) bits i h = rw (and-false (odd bits), opened_end p (bits / 2) (i - 1) (omega (arith, pow-suc 2 (length p))))

-- bit 0 after a character
first_bit : (same on : Bool) (a rest i : ℕ) → a ≤ 1
    → ((cond same a 0 + 2 * rest) / 2 ≡ rest) × (one (eqb a 1 && (same && on)) i ≡ one (odd (cond same a 0 + 2 * rest) && on) i)
first_bit true on a rest i h = let e : (a + 2 * rest) % 2 ≡ a = omega arith in (omega arith, rw e)
first_bit false on a rest i h = let e : (0 + 2 * rest) % 2 ≡ 0 = omega arith in (omega arith, rw (and-false (eqb a 1), e))

-- one character, after which the beginnings that go on have grown; that of `a` is empty
opened_step : (p : List ℕ) (x a bits i c : ℕ) (text : List ℕ) → a ≤ 1 → bits < 2 ^ length p
    → opened bits p (i - 1) (c ∷ text) ++ one (eqb a 1 && stands (x ∷ p) (c ∷ text)) i ≡ opened (grown a bits (x ∷ p) c) p i text
unfolding opened stands grown
opened_step [] x a bits i c text la h = let z : bits ≡ 0 = omega arith in rw z (first_bit (eqb x c) true a 0 i la).1
opened_step (y ∷ p) x a bits i c text la h =
    let rest = grown (bits % 2) (bits / 2) (y ∷ p) c in
    let (half, this) = first_bit (eqb x c) (stands (y ∷ p) text) a rest i la in
    ap₂ (λ (l r : List ℕ). l ++ r)
    (opened_step p y (bits % 2) (bits / 2) (i - 1) c text (omega arith) (omega (arith, pow-suc 2 (length p)))
    ∙ ap (λ (k : ℕ). opened k p (i - 1) text) (sym half))
    this

-- the whole pattern's bit, and the other bits
opened_whole : (p : List ℕ) (bits i : ℕ) (text : List ℕ) → bits < 2 ^ suc (length p)
    → opened bits p i text ≡ one (leb (2 ^ length p) bits) (i - length p) ++ opened (bits % 2 ^ length p) p i text
unfolding opened stands
opened_whole [] zero i text h = refl
opened_whole [] (suc zero) i text h = rw sub-zero
opened_whole [] (suc (suc bits)) i text h = absurd (omega arith)
opened_whole (x ∷ p) bits i text h =
    let k = length p in
    let two = pow-suc 2 k in
    let half : bits % 2 ^ suc k / 2 ≡ bits / 2 % 2 ^ k = rw add-one at (field bits k 1) in
    let last : bits % 2 ^ suc k % 2 ≡ bits % 2 = rw add-one at (mod-mod-pow bits k 1) in
    let test : leb (2 ^ suc k) bits ≡ leb (2 ^ k) (bits / 2) =
    same_test _ _
    (λ t. le→leb (2 ^ k) (bits / 2) (omega (arith, leb→le (2 ^ suc k) bits t)))
    (λ t. le→leb (2 ^ suc k) bits (omega (arith, leb→le (2 ^ k) (bits / 2) t))) in
    let place : i - suc k ≡ i - 1 - k = omega arith in
    rw (half, last, test, place, opened_whole p (bits / 2) (i - 1) text (omega (arith, pow-suc 2 (suc k))), append_assoc)

-- those that are opened before the text, and then the text's own hits
named_opened : (x : ℕ) (p text : List ℕ) (bits n : ℕ) → bits < 2 ^ length p → named (x ∷ p) bits n text ≡ opened bits p (n - 1) text ++ hits_from (x ∷ p) n text
unfolding named hits_from
named_opened x p [] bits n h = rw (opened_end p bits (n - 1) h)
named_opened x p (c ∷ text) bits n h =
    let whole : suc (length p) - 1 ≡ length p = omega arith in
    let now : suc n - 1 ≡ n = omega arith in
    let bit = 2 ^ length p in
    let g = advanced (x ∷ p) bits c in
    let later = hits_from (x ∷ p) (suc n) text in
    cc (
      suc-sub-suc n (length p),
      one_ahead (leb bit g) (n - length p) (named (x ∷ p) (g % bit) (suc n) text),
      named_opened x p text (g % bit) (suc n) (mod-lt g (pow_pos (length p))),
      append_assoc (one (leb bit g) (n - length p)) (opened (g % bit) p n text) later,
      opened_whole p g n text (grown_low (x ∷ p) bits c),
      opened_step p x 1 bits n c text (omega arith) h,
      append_assoc (opened bits p (n - 1) (c ∷ text)) (one (stands (x ∷ p) (c ∷ text)) n) later,
      one_ahead (stands (x ∷ p) (c ∷ text)) n later,
    )

pub named_hits : (p t : List ℕ) → 0 < length p → named p 0 0 t ≡ hits p t
unfolding hits
named_hits [] t h = absurd (omega arith)
named_hits (x ∷ p) t h = named_opened x p t 0 0 (pow_pos (length p)) ∙ rw (opened_none p (0 - 1) t)
