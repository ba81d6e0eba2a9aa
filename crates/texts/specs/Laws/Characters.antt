-- Characters and their ranks in a row; a text whose characters are all in it, and the first that is not.
use Rattle.std.specs.Prelude.{◌≡◌, refl, Bool, true, false, cond, ◌||◌, List, [], ◌∷◌, ◌++◌, map, ℕ, zero, suc, ◌≤◌, ◌<◌, T, eqb, length, take, drop, get_or}
use Rattle.std.proofs.Common.{sym, ap, ap₂, subst, ◌∙◌, le_of_suc-le-suc, arith, le-ltb, eq-eqb, ne_eqb, ltb→lt, length-take, get_or-take, length-take-le}
use Rattle.std.proofs.Math.Bool.{not}
use mathlib.Core.List.Memᴰ
use Rattle.std.proofs.Math.Facts.{yes_ltb, eqb_yes}
use Rattle.ground.specs.Paper.Rows.{first_where}
use Rattle.ground.specs.Helpers.Below.{Below, none, also}
use Rattle.ground.specs.Laws.Rows.{first_here, first_later, first_none, first_within, first_at, first_past, first_end}
use Rattle.ground.specs.Laws.Tests.{by_value, yes_true, true_yes, neither}
use Rattle.stopper.specs.Paper.Table.{has, repeats, rank_in, characters, good_table}
use Rattle.stopper.specs.Laws.Characters.{has_rank, mem_has, ◌∈◌, mem_at}
use Rattle.stopper.specs.Laws.Table.{table_few}
use Rattle.stopper.specs.declared.table.Table.{Table}
use Rattle.texts.specs.Paper.Characters.{first_foreign}

-- ---- the rank of a character and the character of a rank

module _ (l : List ℕ) (b : ℕ) where
  pub rank_within : T (has b l) → rank_in l b < length l
  rank_within t = ltb→lt _ _ (subst T (has_rank l b) t)

  pub within_has : rank_in l b < length l → T (has b l)
  within_has h = subst T (sym (has_rank l b)) (yes_ltb h)

  beyond_has : length l ≤ rank_in l b → has b l ≡ false
  beyond_has h = has_rank l b ∙ le-ltb _ _ h

pub rank_character : (l : List ℕ) (b : ℕ) → T (has b l) → get_or l (rank_in l b) 0 ≡ b
unfolding has rank_in first_where
rank_character [] b t = absurd t
rank_character (x ∷ l) b t = go (eqb x b) eqb_yes (rank_character l b) t
  where
    go : (c : Bool) → (T c → x ≡ b) → (T (has b l) → get_or l (rank_in l b) 0 ≡ b) → T (c || has b l) → get_or (x ∷ l) (cond c 0 (suc (rank_in l b))) 0 ≡ b
    go true here later t = here tt
    go false here later t = later t

pub character_rank : (l : List ℕ) → repeats l ≡ false → (r : ℕ) → r < length l → rank_in l (get_or l r 0) ≡ r
unfolding repeats rank_in first_where
character_rank [] e r h = absurd (omega arith)
character_rank (x ∷ l) e zero h = rw (eq-eqb x x refl)
character_rank (x ∷ l) e (suc r) h =
    let k : r < length l = le_of_suc-le-suc h in
    let p = neither (has x l) (repeats l) e in
    let n : x ≡ get_or l r 0 → ⊥ = λ q. subst T p.0 (mem_has l x (subst (λ (y : ℕ). y ∈ l) (sym q) (mem_at l r k))) in
    rw (ne_eqb x (get_or l r 0) n, character_rank l p.1 r k)

-- ---- every character of the text is in the row

pub data InTable (l : List ℕ) : List ℕ → Type 0 where
  empty : InTable l []
  char : {b : ℕ} {text : List ℕ} → T (has b l) → InTable l text → InTable l (b ∷ text)

pub ranks_below : (l : List ℕ) {text : List ℕ} → InTable l text → Below (length l) (map (rank_in l) text)
ranks_below l empty = none
ranks_below l (char {b = b} t h) = also (rank_within l b t) (ranks_below l h)

-- one that is in the table, by its members
pub all_known : (l text : List ℕ) → ((x : ℕ) → x ∈ text → T (has x l)) → InTable l text
all_known l [] h = empty
all_known l (b ∷ text) h = char (h b (Memᴰ.head refl)) (all_known l text (λ x m. h x (Memᴰ.tail m)))

-- parts of texts that are
module _ {l : List ℕ} where
  pub known_append : {a b : List ℕ} → InTable l a → InTable l b → InTable l (a ++ b)
  known_append empty k = k
  known_append (char t h) k = char t (known_append h k)

  pub known_take : {text : List ℕ} → InTable l text → (i : ℕ) → InTable l (take i text)
  known_take h zero = empty
  known_take empty (suc i) = empty
  known_take (char t h) (suc i) = char t (known_take h i)

  pub known_drop : {text : List ℕ} → InTable l text → (i : ℕ) → InTable l (drop i text)
  known_drop h zero = h
  known_drop empty (suc i) = empty
  known_drop (char t h) (suc i) = known_drop h i

-- ---- the first character that is not in the row

module _ (l : List ℕ) where
  pub foreign_here : (b : ℕ) (text : List ℕ) → has b l ≡ false → first_foreign l (b ∷ text) ≡ 0
  unfolding first_foreign
  foreign_here b text e = first_here (λ b. not (has b l)) b text (rw e)

  pub foreign_later : (b : ℕ) (text : List ℕ) → T (has b l) → first_foreign l (b ∷ text) ≡ suc (first_foreign l text)
  unfolding first_foreign
  foreign_later b text t = first_later (λ b. not (has b l)) b text (rw (yes_true (has b l) t))

  pub foreign_none : first_foreign l [] ≡ 0
  unfolding first_foreign
  foreign_none = first_none (λ b. not (has b l))

  pub foreign_within : (text : List ℕ) → first_foreign l text ≤ length text
  unfolding first_foreign
  foreign_within text = first_within (λ b. not (has b l)) text

  -- all before it are in the table
  pub foreign_before : (text : List ℕ) → InTable l (take (first_foreign l text) text)
  foreign_before [] = rw foreign_none empty
  foreign_before (b ∷ text) =
      by_value (has b l)
      (λ e. let t = true_yes (has b l) e in rw (foreign_later b text t) (char t (foreign_before text)))
      (λ e. rw (foreign_here b text e) empty)

  -- and it is not
  pub foreign_is : (text : List ℕ) → first_foreign l text < length text → has (get_or text (first_foreign l text) 0) l ≡ false
  foreign_is [] h = absurd (omega arith)
  foreign_is (b ∷ text) h =
      by_value (has b l)
      (λ e. let f = foreign_later b text (true_yes (has b l) e) in rw f (foreign_is text (le_of_suc-le-suc (rw f at h))))
      (λ e. rw (foreign_here b text e) e)

  -- no other number is so
  pub foreign_one : (text : List ℕ) (i : ℕ) → i ≤ length text → InTable l (take i text) → (i < length text → has (get_or text i 0) l ≡ false)
      → i ≡ first_foreign l text
  foreign_one [] i h k n = rw foreign_none (omega arith)
  foreign_one (b ∷ text) zero h k n = sym (foreign_here b text (n (omega arith)))
  foreign_one (b ∷ text) (suc i) h (char t k) n =
      ap suc (foreign_one text i (le_of_suc-le-suc h) k (λ p. n (omega arith))) ∙ sym (foreign_later b text t)

  -- a text is in the table exactly if it has none
  pub known_foreign : {text : List ℕ} → InTable l text → first_foreign l text ≡ length text
  known_foreign empty = foreign_none
  known_foreign (char {b = b} {text = text} t h) = foreign_later b text t ∙ ap suc (known_foreign h)

  pub foreign_known : (text : List ℕ) → first_foreign l text ≡ length text → InTable l text
  foreign_known [] e = empty
  foreign_known (b ∷ text) e =
      by_value (has b l)
      (λ v. let t = true_yes (has b l) v in char t (foreign_known text (omega (arith, foreign_later b text t))))
      (λ v. absurd (omega (arith, foreign_here b text v)))

-- ---- a text and its ranks

pub characters_back : (l : List ℕ) {text : List ℕ} → InTable l text → map (λ r. get_or l r 0) (map (rank_in l) text) ≡ text
characters_back l empty = refl
characters_back l (char {b = b} t h) = ap₂ {C = List ℕ} ◌∷◌ (rank_character l b t) (characters_back l h)

pub ranks_back : (l : List ℕ) → repeats l ≡ false → {rs : List ℕ} → Below (length l) rs → map (rank_in l) (map (λ r. get_or l r 0) rs) ≡ rs
ranks_back l e none = refl
ranks_back l e (also {x = r} h k) = ap₂ {C = List ℕ} ◌∷◌ (character_rank l e r h) (ranks_back l e k)

pub ranks_known : (l : List ℕ) {rs : List ℕ} → Below (length l) rs → InTable l (map (λ r. get_or l r 0) rs)
ranks_known l none = empty
ranks_known l (also {x = r} h k) = char (mem_has l (get_or l r 0) (mem_at l r h)) (ranks_known l k)

-- ---- the characters of a good table

module _ (t : Table) where
  pub characters_few : length (characters t) ≤ t.sigma
  characters_few = rw length-take (omega arith)

  module _ (g : T (good_table t)) where
    pub characters_length : length t.places ≡ 256 → length (characters t) ≡ t.sigma
    characters_length e = length-take-le t.sigma t.places (omega (arith, table_few t g))

-- the character of a rank, looked up in the places
pub places_characters : (t : Table) {rs : List ℕ} → Below t.sigma rs → map (λ r. get_or t.places r 0) rs ≡ map (λ r. get_or (characters t) r 0) rs
places_characters t none = refl
places_characters t (also {x = r} h k) = ap₂ {C = List ℕ} ◌∷◌ (sym (get_or-take t.sigma t.places r 0 h)) (places_characters t k)

-- ---- from place i of a text on

module _ (l p : List ℕ) (i : ℕ) (h : i < length p) where
  pub foreign_more : rank_in l (get_or p i 0) < length l → first_foreign l (drop i p) ≡ suc (first_foreign l (drop (suc i) p))
  unfolding first_foreign
  foreign_more k = first_past (λ b. not (has b l)) p i h (rw (yes_true (has (get_or p i 0) l) (within_has l (get_or p i 0) k)))

  pub foreign_first : length l ≤ rank_in l (get_or p i 0) → first_foreign l (drop i p) ≡ 0
  unfolding first_foreign
  foreign_first k = first_at (λ b. not (has b l)) p i h (rw (beyond_has l (get_or p i 0) k))

pub foreign_end : (l p : List ℕ) → first_foreign l (drop (length p) p) ≡ 0
unfolding first_foreign
foreign_end l p = first_end (λ b. not (has b l)) p
