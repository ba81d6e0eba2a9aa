-- The laws of what symbols give.
use Rattle.std.proofs.Math.Path.{◌≡◌, refl, sym, ap, subst}
use Rattle.std.proofs.Common.{◌∙◌, add-mul, mul_assoc, nltb→le, take-append-drop, drop-cons, take-add, take_all, take_at, take-suc, drop-drop, drop-set-lt, length-take-le, get_or-set_same, get_or-set_other}
use mathlib.Core.List.{List, [], ◌∷◌, ◌++◌, map-append, append_assoc, append-nil}
use Prim.Native.Nat.{ℕ, zero, suc, ◌+◌, ◌-◌, ◌*◌, ◌/◌, ◌%◌, ◌≤◌, ◌<◌}
use Rattle.std.proofs.Math.Nat.{mul-le-mul_right, sub_self}
use Rattle.std.proofs.Math.Decide.{ℕ_discrete}
use native.Mathlib.Omega.{arith}
use Rattle.std.specs.Prelude.{T, ltb, length, set}
use Rattle.std.proofs.Math.Dec.{ltb→lt}
use Rattle.std.proofs.Math.ListN.{take, drop, get_or, length-drop}
use Rattle.std.proofs.lemmas.List.{take-append-le}
use Rattle.std.proofs.Math.Seq.{take-append-add, take-append_seam, take-suc-set, drop-append_seam, get_or-drop}
use Rattle.std.proofs.lemmas.List.Edits.{sets, sets-eq}
use Rattle.ground.specs.Helpers.Below.{Below, none, also}
use Rattle.ground.specs.Paper.Rows.{zeros}
use Rattle.ground.specs.Laws.Rows.{get_or_zeros, below_take, below_drop, map_take}
use Rattle.ground.specs.Laws.Tests.{by_test}
use Rattle.stopper.specs.Paper.Code.{shorter}
use Rattle.stopper.specs.Paper.Table.{base, stoppers, good_code}
use Rattle.stopper.specs.Paper.Reading.{done, bad, read_from}
use Rattle.stopper.specs.Laws.Table.{code_good}
use Rattle.stopper.specs.Laws.Reading.{aheads, ahead_done, read_past}
use Rattle.stopper.specs.declared.code.Code.{Code}
use Rattle.symbols.specs.Paper.Symbols.{symbols_of}
use Rattle.reading.specs.Paper.Reading.{row_upto, row_reading, ranks_read}
use Rattle.reading.specs.Laws.Reading.{whole_is}
use Rattle.moves.specs.Helpers.States.{fewer, state_of, few, many, ended_by, opened_by, state_after, ranks_ended, open_from}
use Rattle.moves.specs.Helpers.Moves.{Goes, bound_in}
use Rattle.unpacking.specs.Helpers.Gives.{characters_of, Spells, silent, speaks, first_times, first_plus, later_in, KnownIn, KnownByByte, Unpacks, Wrote}
use Rattle.moves.specs.Laws.States.{ranks_stop, ranks_more, by_symbol, ranks_append}
use Rattle.moves.proofs.Laws.States.{more_state, stop_reads, more_reads, lands, least, stuck_stop, aheads_bad}
use Rattle.moves.specs.Laws.Moves.{here_as, here_start, here_goes, goes_none, goes_never, goes_stop, goes_more}

below_both : {n r : ℕ} {rs : List ℕ} → Below n (r ∷ rs) → (r < n) × Below n rs
below_both (also k l) = (k, l)

-- ---- what symbols give

module _ (c : Code) where
  -- at most one codeword ends with a symbol
  pub ranks_few : (w : List ℕ) (x : ℕ) → length (ranks_ended c x w) ≤ length w
  unfolding ranks_ended
  ranks_few [] x = omega arith
  ranks_few (y ∷ w) x =
      by_symbol c y
      (λ h. rw (ranks_stop c y w h x) (omega (arith, ranks_few w 0)))
      (λ h. rw (ranks_more c y w h x) (omega (arith, ranks_few w (opened_by c x y))))

  module _ (places : List ℕ) where
    pub spells_none : (later : List ℕ) → Spells c places [] 0 0 later
    unfolding ranks_ended
    spells_none later = silent (λ x. refl) refl refl

    pub spells_stop : (y : ℕ) {w : List ℕ} {t p a b d : ℕ} → y < few c → length w ≤ 3 → Spells c places w t p (a ∷ b ∷ d ∷ [])
        → Spells c places (y ∷ w) (few c) y (get_or places p 0 ∷ a ∷ b ∷ [])
    spells_stop y {w} h l (silent e _ _) = speaks (ranks_ended c 0 w) (λ x. ranks_stop c y w h x) (rw (e 0))
    spells_stop y {w} {t} {p} {a} {b} {d} h l (speaks rs e f) =
        let e₀ : ranks_ended c 0 w ≡ p ∷ rs = e 0 ∙ ap (λ (n : ℕ). n ∷ rs) (omega arith) in
        let n : length rs ≤ 2 = omega (arith, ranks_few w 0, ap length e₀) in
        speaks (ranks_ended c 0 w) (λ x. ranks_stop c y w h x)
        (rw e₀ (ap (λ (r : List ℕ). get_or places p 0 ∷ r) (f ∙ take-append-le (length rs) (a ∷ b ∷ []) (d ∷ []) n)))

    pub spells_more : (y : ℕ) {w : List ℕ} {t p : ℕ} {later : List ℕ} → few c ≤ y → Spells c places w t p later
        → Spells c places (y ∷ w) (many c * t) ((y - few c + 1) * t + p) later
    spells_more y {w} h (silent e i j) =
        silent (λ x. ranks_more c y w h x ∙ e (opened_by c x y)) (rw i (omega arith)) (rw (i, j) (omega arith))
    spells_more y {w} {t} {p} h (speaks rs e f) =
        speaks rs (λ x. ranks_more c y w h x ∙ e (opened_by c x y)
        ∙ ap (λ (n : ℕ). n ∷ rs) (omega (arith, add-mul (x * many c) (y - few c + 1) t, mul_assoc x (many c) t))) f

    module _ {w : List ℕ} {t p : ℕ} {later : List ℕ} where
      pub spells_first : {σ : ℕ} → Spells c places w t p later → (x : ℕ) → Below σ (ranks_ended c x w) → σ ≤ 256 → x * t + p < 256
      spells_first (silent e i j) x b h = rw (i, j) (omega arith)
      spells_first {σ} (speaks rs e f) x b h = omega (arith, (below_both (subst (Below σ) (e x) b)).0)

      spells_all : Spells c places w t p later → (x : ℕ)
          → characters_of places (ranks_ended c x w) ≡ take (length (ranks_ended c x w)) (get_or places (x * t + p) 0 ∷ later)
      spells_all (silent e i j) x = rw (e x)
      spells_all (speaks rs e f) x = rw (e x) (ap (λ (r : List ℕ). get_or places (x * t + p) 0 ∷ r) f)

-- in one number
low_part : (a n : ℕ) → a ≤ 255 → (a + 256 * n) % 256 ≡ a
low_part a n h = omega arith

alone : (d : ℕ) → d ≤ 255 → d % 256 ≡ d
alone d h = omega arith

pub kept_in : (t p a b d : ℕ) → t ≤ 255 → p ≤ 255 → a ≤ 255 → b ≤ 255 → d ≤ 255 → let g = t + 256 * p + 65536 * (a + 256 * b + 65536 * d) in
    (first_times g ≡ t) × (first_plus g ≡ p) × (later_in g ≡ a ∷ b ∷ d ∷ [])
kept_in t p a b d h i j k l =
    let g = t + 256 * p + 65536 * (a + 256 * b + 65536 * d) in
    let i₁ : g / 65536 ≡ a + 256 * (b + 256 * d) = omega arith in
    let i₂ : g / 16777216 ≡ b + 256 * d = omega arith in
    let i₃ : g / 4294967296 ≡ d = omega arith in
    let i₀ : g / 256 ≡ p + 256 * (a + 256 * b + 65536 * d) = omega arith in
    let e₁ : g / 65536 % 256 ≡ a = rw i₁ (low_part a (b + 256 * d) j) in
    let e₂ : g / 16777216 % 256 ≡ b = rw i₂ (low_part b d k) in
    let e₃ : g / 4294967296 % 256 ≡ d = rw i₃ (alone d l) in
    let e : g ≡ t + 256 * (p + 256 * (a + 256 * b + 65536 * d)) = omega arith in
    (ap (λ (n : ℕ). n % 256) e ∙ low_part t (p + 256 * (a + 256 * b + 65536 * d)) h, rw i₀ (low_part p (a + 256 * b + 65536 * d) i), cc)

-- ---- a row that is good to its end

module _ (c : Code) (g : T (good_code c)) (σ : ℕ) where
  read_ranks : (w : List ℕ) (from i v : ℕ) (rs : List ℕ) → (i ≡ 0 → v ≡ 0) → read_from (base c) (stoppers c) σ from i v w ≡ done rs
      → (rs ≡ ranks_ended c (state_of c i v) w) × Below σ rs
  unfolding fewer read_from ranks_ended
  read_ranks [] from zero v rs z e = let n : [] ≡ rs = cc in (sym n, subst (Below σ) n none)
  read_ranks [] from (suc i) v rs z e = let n : ◌≡◌ {A = ℕ} 0 1 = cc in absurd (omega arith)
  read_ranks (y ∷ w) from i v rs z e =
      let x = state_of c i v in
      let r = ended_by c x y in
      by_symbol c y
      (λ h.
      by_test (ltb r σ)
      (λ t.
      let k = ltb→lt _ _ t in
      let (ts, d, q) = ahead_done r _ rs (sym (stop_reads c g σ from i v y w h k) ∙ e) in
      let (a, b) = read_ranks w (from + suc i) 0 0 ts (λ _. refl) d in
      (sym q ∙ ap (λ (l : List ℕ). r ∷ l) a ∙ sym (ranks_stop c y w h x), subst (Below σ) q (also k b)))
      (λ t.
      let (f, d) = stuck_stop c g σ x y w h (nltb→le _ _ t) from i v z refl in
      let n : ◌≡◌ {A = ℕ} 0 1 = cc in
      absurd (omega arith)))
      (λ h.
      let (a, b) = read_ranks w from (suc i) (v * many c + (y - few c)) rs (λ n. absurd (omega arith)) (sym (more_reads c g σ from i v y w h) ∙ e) in
      (a ∙ ap (λ (n : ℕ). ranks_ended c n w) (more_state c i v y) ∙ sym (ranks_more c y w h x), b))

  -- no state on the way reaches σ
  module _ (few : σ ≤ 256) (w rest : List ℕ) (from : ℕ) (rs : List ℕ) (e : read_from (base c) (stoppers c) σ from 0 0 (w ++ rest) ≡ done rs) (b : Below σ (ranks_ended c 0 w)) where
    open_small : (start i v : ℕ) → (i ≡ 0 → v ≡ 0) → aheads (ranks_ended c 0 w) (read_from (base c) (stoppers c) σ start i v rest) ≡ done rs → state_of c i v < 256
    unfolding fewer
    open_small start zero v z q = omega (arith, z refl)
    open_small start (suc i) v z q =
        by_test (ltb (shorter (base c) (stoppers c) (suc i) + v) σ)
        (λ t. let k : shorter (base c) (stoppers c) (suc i) + v < σ = ltb→lt _ _ t in omega (arith, least c g σ (suc i) v))
        (λ t.
        let (f, d) = read_past (base c) (stoppers c) (code_good c g) σ start i v rest (nltb→le _ _ t) in
        let (us, a) = aheads_bad c g σ (ranks_ended c 0 w) f start [] in
        let k : bad f start us ≡ done rs = sym a ∙ ap (aheads (ranks_ended c 0 w)) (sym d) ∙ q in
        let n : ◌≡◌ {A = ℕ} 0 1 = cc in
        absurd (omega arith))

    state_small : state_after c 0 w < 256
    unfolding fewer
    state_small =
        let o = lands c g σ w rest from 0 0 (λ _. refl) b in
        rw (sym o.state) (open_small (open_from c from (from + 0) w) o.upto o.value o.fresh (sym o.reads ∙ e))

module _ {c : Code} {σ : ℕ} {buf : List ℕ} {h p m : ℕ} (z : Unpacks c σ buf h p m) where
  abbrev left : List ℕ
  left = drop p (row_upto c h buf)

  whole_done : row_reading c σ (row_upto c h buf) p ≡ done (ranks_read (row_reading c σ (row_upto c h buf) p))
  whole_done = whole_is (row_reading c σ (row_upto c h buf) p) z.whole

  whole_ranks : (ranks_read (row_reading c σ (row_upto c h buf) p) ≡ ranks_ended c 0 left) × Below σ (ranks_read (row_reading c σ (row_upto c h buf) p))
  unfolding fewer
  whole_ranks = read_ranks c z.reads.good σ left p 0 0 (ranks_read (row_reading c σ (row_upto c h buf) p)) (λ _. refl) whole_done

  -- those of its first symbols
  ranks_split : (j : ℕ) → ranks_ended c 0 left ≡ ranks_ended c 0 (take j left) ++ ranks_ended c (state_after c 0 (take j left)) (drop j left)
  ranks_split j = ap (ranks_ended c 0) (sym (take-append-drop j left)) ∙ ranks_append c (take j left) (drop j left) 0

  front_below : (j : ℕ) → Below σ (ranks_ended c 0 (take j left))
  front_below j =
      let us = ranks_ended c 0 (take j left) in
      let vs = ranks_ended c (state_after c 0 (take j left)) (drop j left) in
      subst (Below σ) (ap (take (length us)) (whole_ranks.0 ∙ ranks_split j) ∙ take-append_seam us vs) (below_take whole_ranks.1 (length us))

  front_small : (j : ℕ) → state_after c 0 (take j left) < 256
  front_small j =
      state_small c z.reads.good σ z.reads.few (take j left) (drop j left) p (ranks_read (row_reading c σ (row_upto c h buf) p))
      (ap (read_from (base c) (stoppers c) σ p 0 0) (take-append-drop j left) ∙ whole_done) (front_below j)

-- ---- characters written along a row

-- what lies behind four stores
pub back_kept : (m : ℕ) (out : List ℕ) (n a b d e : ℕ) → n + 4 ≤ m → drop m (set (set (set (set out n a) (n + 1) b) (n + 2) d) (n + 3) e) ≡ drop m out
back_kept m out n a b d e h =
    let one = set out n a in
    let two = set one (n + 1) b in
    drop-set-lt m (set two (n + 2) d) (n + 3) e (omega arith)
    ∙ drop-set-lt m two (n + 2) d (omega arith)
    ∙ drop-set-lt m one (n + 1) b (omega arith)
    ∙ drop-set-lt m out n a (omega arith)

module _ {c : Code} {σ : ℕ} {places row : List ℕ} {p : ℕ} where
  pub wrote_start : (out : List ℕ) → Wrote c σ places row p out (record { at = p; x = 0; n = 0 })
  unfolding ranks_ended
  wrote_start out =
      record {
        from = omega arith;
        here = rw (sub_self p) (here_start c σ (drop p row));
        front = rw (sub_self p);
      }

  -- some symbols more, and the characters of the codewords that they end
  wrote_goes : {out : List ℕ} {at x n : ℕ} (rest after : List ℕ) {w : List ℕ} {b t q k : ℕ} → Wrote c σ places row p out (record { at = at; x = x; n = n })
      → drop at row ≡ w ++ rest → Goes c σ w b t q k → x < b → take (n + k) after ≡ take n out ++ characters_of places (ranks_ended c x w)
      → Wrote c σ places row p after (record { at = at + length w; x = x * t + q; n = n + k })
  wrote_goes {out} {at} {x} {n} rest after {w} {b} {t} {q} {k} z e m h f =
      let j = at - p in
      let l = drop p row in
      let i : p + j ≡ at = omega (arith, z.from) in
      let i' : at + length w - p ≡ j + length w = omega (arith, z.from) in
      let d : drop j l ≡ w ++ rest = drop-drop j p row ∙ ap (λ (n : ℕ). drop n row) i ∙ e in
      let a : take (at + length w - p) l ≡ take j l ++ w
      = ap (λ (n : ℕ). take n l) i' ∙ take-add j (length w) l ∙ ap (λ (r : List ℕ). take j l ++ r) (ap (take (length w)) d ∙ take-append_seam w rest) in
      let r : ranks_ended c 0 (take (at + length w - p) l) ≡ ranks_ended c 0 (take j l) ++ ranks_ended c x w
      = ap (ranks_ended c 0) a ∙ ranks_append c (take j l) w 0 ∙ ap (λ (y : ℕ). ranks_ended c 0 (take j l) ++ ranks_ended c y w) z.here.state in
      record {
        from = omega (arith, z.from);
        here = here_as i' refl refl (here_goes c σ l rest z.here d m h);
        front =
            f
            ∙ ap (λ (u : List ℕ). u ++ characters_of places (ranks_ended c x w)) z.front
            ∙ sym (map-append (λ rank. get_or places rank 0) (ranks_ended c 0 (take j l)) (ranks_ended c x w))
            ∙ ap (characters_of places) (sym r);
      }

  -- the same by other names
  pub wrote_as : {out : List ℕ} {at x n at' x' n' : ℕ} → at' ≡ at → x' ≡ x → n' ≡ n → Wrote c σ places row p out (record { at = at; x = x; n = n })
      → Wrote c σ places row p out (record { at = at'; x = x'; n = n' })
  wrote_as d e f z = rw (d, e, f) z

  module _ {out : List ℕ} {at x n : ℕ} (z : Wrote c σ places row p out (record { at = at; x = x; n = n })) where
    -- one symbol
    module _ (l : at < length row) where
      pub wrote_stop : get_or row at 0 < few c → ended_by c x (get_or row at 0) < σ → n < length out
          → Wrote c σ places row p (set out n (get_or places (ended_by c x (get_or row at 0)) 0)) (record { at = at + 1; x = 0; n = n + 1 })
      unfolding ranks_ended
      wrote_stop h k r =
          let y = get_or row at 0 in
          let v = get_or places (ended_by c x y) 0 in
          let m = goes_stop c σ y (suc x) (goes_none c σ 1) h (omega arith) (λ u a. let b : u * few c ≤ x * few c = mul-le-mul_right (few c) (omega arith) in omega arith) in
          let i : n + (0 + 1) ≡ suc n = omega arith in
          wrote_as refl (omega arith) (omega arith)
          (wrote_goes (drop (suc at) row) (set out n v) z (drop-cons row at 0 l) m (omega arith)
          (ap (λ (j : ℕ). take j (set out n v)) i ∙ take-suc-set out n v r ∙ ap (λ (rs : List ℕ). take n out ++ characters_of places rs) (sym (ranks_stop c y [] h x))))

      pub wrote_more : few c ≤ get_or row at 0 → Wrote c σ places row p out (record { at = at + 1; x = opened_by c x (get_or row at 0); n = n })
      unfolding ranks_ended
      wrote_more h =
          let y = get_or row at 0 in
          let m = goes_more c σ y (suc x) (goes_none c σ (suc (opened_by c x y))) h
          (λ u a. let b : u * many c ≤ x * many c = mul-le-mul_right (many c) (omega arith) in omega arith) in
          let i : n + 0 ≡ n = omega arith in
          wrote_as refl (omega arith) (omega arith)
          (wrote_goes (drop (suc at) row) out z (drop-cons row at 0 l) m (omega arith)
          (ap (λ (j : ℕ). take j out) i ∙ sym (append-nil (take n out)) ∙ ap (λ (rs : List ℕ). take n out ++ characters_of places rs) (sym (ranks_more c y [] h x))))

    -- the symbols of a byte: four characters are stored, as many of them count as codewords end
    pub wrote_byte : (rest : List ℕ) {w : List ℕ} {b t q k u v a₁ a₂ a₃ : ℕ} → drop at row ≡ w ++ rest → Goes c σ w b t q k → x < b
        → Spells c places w u v (a₁ ∷ a₂ ∷ a₃ ∷ []) → length w ≤ 4 → n + 4 ≤ length out
        → Wrote c σ places row p (set (set (set (set out n (get_or places (x * u + v) 0)) (n + 1) a₁) (n + 2) a₂) (n + 3) a₃) (record { at = at + length w; x = x * t + q; n = n + k })
    wrote_byte rest {w} {b} {t} {q} {k} {u} {v} {a₁} {a₂} {a₃} e m h f short room =
        let four : List ℕ = get_or places (x * u + v) 0 ∷ a₁ ∷ a₂ ∷ a₃ ∷ [] in
        let rest_of : List ℕ = drop (n + length four) out in
        let i₁ : n + 1 ≡ suc n = omega arith in
        let i₂ : n + 2 ≡ suc (suc n) = omega arith in
        let i₃ : n + 3 ≡ suc (suc (suc n)) = omega arith in
        let few : k ≤ 4 = omega (arith, m.ends x h, ranks_few c w x) in
        let l : length (take n out) ≡ n = length-take-le n out (omega arith) in
        let s : take (n + k) (sets out n four) ≡ take n out ++ take k four
        = ap (take (n + k)) (sets-eq four out n room ∙ append_assoc (take n out) four rest_of)
        ∙ ap (λ (j : ℕ). take (j + k) (take n out ++ (four ++ rest_of))) (sym l)
        ∙ take-append-add (take n out) (four ++ rest_of) k
        ∙ ap (λ (r : List ℕ). take n out ++ r) (take-append-le k four rest_of few) in
        rw (i₁, i₂, i₃)
        (wrote_goes rest (sets out n four) z e m h
        (s ∙ ap (λ (r : List ℕ). take n out ++ r) (ap (λ (j : ℕ). take j four) (sym (m.ends x h)) ∙ sym (spells_all c places f x))))

module _ {c : Code} {σ : ℕ} {buf : List ℕ} {h p m : ℕ} (z : Unpacks c σ buf h p m) {places out : List ℕ} {at x n : ℕ}
    (w : Wrote c σ places (row_upto c h buf) p out (record { at = at; x = x; n = n })) where
  pub way_small : x < 256
  way_small = rw (sym w.here.state) (front_small z (at - p))

  -- a codeword that ends there is good
  pub rank_below : at < length (row_upto c h buf) → get_or (row_upto c h buf) at 0 < few c → ended_by c x (get_or (row_upto c h buf) at 0) < σ
  unfolding ranks_ended
  rank_below l k =
      let row = row_upto c h buf in
      let y = get_or row at 0 in
      let j = at - p in
      let left = drop p row in
      let us = ranks_ended c 0 (take j left) in
      let i : p + j ≡ at = omega (arith, w.from) in
      let e : get_or left j 0 ≡ y = get_or-drop p row j 0 ∙ ap (λ (o : ℕ). get_or row o 0) i in
      let r : ranks_ended c 0 (take (suc j) left) ≡ us ++ (ended_by c x y ∷ [])
      = ap (ranks_ended c 0) (take-suc left j 0 (omega (arith, length-drop p row, w.from)) ∙ ap (λ (v : ℕ). take j left ++ (v ∷ [])) e)
      ∙ ranks_append c (take j left) (y ∷ []) 0
      ∙ ap (λ (v : ℕ). us ++ ranks_ended c v (y ∷ [])) w.here.state
      ∙ ap (λ (rs : List ℕ). us ++ rs) (ranks_stop c y [] k x) in
      (below_both (subst (Below σ) (ap (drop (length us)) r ∙ drop-append_seam us (ended_by c x y ∷ [])) (below_drop (front_below z (suc j)) (length us)))).0

  -- m characters are written where the row is used up, or m are
  pub wrote_end : n ≤ m → at ≤ h → (at < h → n ≡ m)
      → take m out ≡ take m (characters_of places (ranks_read (row_reading c σ (row_upto c h buf) p)))
  wrote_end k l f =
      let row = row_upto c h buf in
      let left = drop p row in
      let j = at - p in
      let us = ranks_ended c 0 (take j left) in
      let vs = ranks_ended c (state_after c 0 (take j left)) (drop j left) in
      let all = ranks_read (row_reading c σ row p) in
      let long : length row ≡ h = length-take-le h (symbols_of c.k buf) z.reads.held in
      let n_is : n ≡ m
      = by_test (ltb at h) (λ t. f (ltb→lt _ _ t))
      (λ t.
      let g : h ≤ at = nltb→le _ _ t in
      let whole : take j left ≡ left = take_all j left (omega (arith, length-drop p row)) in
      omega (arith, w.here.ends, ap (λ (r : List ℕ). length (ranks_ended c 0 r)) whole, ap length (whole_ranks z).0, z.enough)) in
      ap (λ (i : ℕ). take i out) (sym n_is) ∙ w.front
      ∙ ap (characters_of places) (sym (take_at us vs m (w.here.ends ∙ n_is)) ∙ ap (take m) (sym ((whole_ranks z).0 ∙ ranks_split z j)))
      ∙ sym (map_take (λ rank. get_or places rank 0) m all)

-- ---- what bytes give, as far as it is worked out

module _ (c : Code) (σ : ℕ) (places : List ℕ) where
  pub known_none : (n : ℕ) → KnownByByte c σ places (zeros n) (zeros n)
  known_none n b = (
    rw (get_or_zeros n b) (goes_never c σ (symbols_of c.k (b ∷ [])) _ _ _),
    λ h. let i : 0 < bound_in 0 = rw (get_or_zeros n b) at h in absurd (omega arith),
  )

  pub known_more : (t u : List ℕ) (n e g : ℕ) → n < length t → n < length u → KnownByByte c σ places t u → KnownIn c σ places n e g
      → KnownByByte c σ places (set t n e) (set u n g)
  known_more t u n e g l k z m b =
      elim (ℕ_discrete b n) [
        | yes q ↦ rw (q, get_or-set_same t n e 0 l, get_or-set_same u n g 0 k) m
        | no q ↦ rw (get_or-set_other t n b e 0 q, get_or-set_other u n b g 0 q) (z b)
      ]
