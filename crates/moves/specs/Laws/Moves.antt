-- The laws of moves. What they give of the whole row stands in proofs/Laws/Moves.
use Rattle.std.specs.Prelude.{◌≡◌, refl, List, [], ◌∷◌, ◌++◌, ℕ, suc, ◌+◌, ◌-◌, ◌*◌, ◌/◌, ◌^◌, ◌≤◌, ◌<◌, T, length, take, drop, get_or, set}
use Rattle.std.proofs.Common.{sym, ap, ap₂, ◌∙◌, le-div_iff_mul-le, add-mul, mul_assoc, mul-le-mul_right, add-one, arith, length-append, length-drop, drop-cons, take-add, length-take-le, get_or-set_same, get_or-set_other}
use Rattle.std.proofs.Math.Nat.{pow-zero}
use Rattle.std.proofs.Math.Decide.{ℕ_discrete}
use Rattle.std.proofs.Math.Seq.{take-append-add, take-append_seam}
use Rattle.ground.specs.Helpers.Below.{none, also}
use Rattle.ground.specs.Laws.Rows.{below_append}
use Rattle.ground.specs.Laws.Runs.{run_slice}
use Rattle.stopper.specs.Paper.Table.{base, good_code}
use Rattle.stopper.specs.Laws.Table.{code_width}
use Rattle.stopper.specs.declared.code.Code.{Code}
use Rattle.symbols.specs.Paper.Symbols.{per, symbols_of}
use Rattle.symbols.specs.Helpers.Widths.{Width}
use Rattle.symbols.specs.Helpers.Gathered.{digits}
use Rattle.symbols.specs.Laws.Width.{per_pos, by_width}
use Rattle.symbols.specs.Laws.Gathered.{digits_append, digits_one}
use Rattle.symbols.proofs.Laws.Gathered.{byte_digits}
use Rattle.symbols.specs.Laws.Rows.{symbols_length, symbols_append, symbols_drop, starts_within}
use Rattle.reading.specs.Paper.Reading.{row_upto}
use Rattle.moves.specs.Helpers.States.{few, many, ended_by, opened_by, state_after, ranks_ended}
use Rattle.moves.specs.Helpers.Moves.{Goes, Moves, In, bound_in, times_in, plus_in, stops_in, MoveIn, MovesOf, MovesByByte, PartIn, Rows, Here}
use Rattle.moves.specs.Laws.States.{after_stop, after_more, ranks_stop, ranks_more, state_append, ranks_append, ends_few}
use Rattle.moves.specs.declared.byte.Move.{Move}
use Rattle.moves.specs.declared.byte.Parts.{Parts}

-- the same by other names
pub here_as : {c : Code} {σ : ℕ} {row : List ℕ} {q x n q' x' n' : ℕ} → q' ≡ q → x' ≡ x → n' ≡ n → Here c σ row q x n → Here c σ row q' x' n'
here_as d e f z = rw (d, e, f) z

module _ (c : Code) (σ : ℕ) where
  -- ---- moves

  pub goes_none : (b : ℕ) → Goes c σ [] b 1 0 0
  unfolding state_after ranks_ended
  goes_none b = record { state = λ x h. omega arith; ends = λ x h. refl; good = λ x h. none }

  -- no state is below 0
  pub goes_never : (w : List ℕ) (t p n : ℕ) → Goes c σ w 0 t p n
  goes_never w t p n = record { state = λ x h. absurd (omega arith); ends = λ x h. absurd (omega arith); good = λ x h. absurd (omega arith) }

  pub goes_stop : (y b' : ℕ) {w : List ℕ} {b t p n : ℕ} → Goes c σ w b t p n → y < few c → 0 < b → ((x : ℕ) → x < b' → ended_by c x y < σ)
      → Goes c σ (y ∷ w) b' 0 p (n + 1)
  goes_stop y b' {w} {b} {t} {p} {n} m h k f =
      record {
        state = λ x l. after_stop c y w h x ∙ m.state 0 k ∙ omega arith;
        ends = λ x l. ap length (ranks_stop c y w h x) ∙ omega (arith, m.ends 0 k);
        good = λ x l. rw (ranks_stop c y w h x) (also (f x l) (m.good 0 k));
      }

  pub goes_more : (y b' : ℕ) {w : List ℕ} {b t p n : ℕ} → Goes c σ w b t p n → few c ≤ y → ((x : ℕ) → x < b' → opened_by c x y < b)
      → Goes c σ (y ∷ w) b' (many c * t) ((y - few c + 1) * t + p) n
  goes_more y b' {w} {b} {t} {p} {n} m h f =
      record {
        state = λ x l. after_more c y w h x ∙ m.state (opened_by c x y) (f x l) ∙ omega (arith, add-mul (x * many c) (y - few c + 1) t, mul_assoc x (many c) t);
        ends = λ x l. ap length (ranks_more c y w h x) ∙ m.ends (opened_by c x y) (f x l);
        good = λ x l. rw (ranks_more c y w h x) (m.good (opened_by c x y) (f x l));
      }

  -- ---- along a row

  module _ (row : List ℕ) where
    pub here_start : Here c σ row 0 0 0
    unfolding state_after ranks_ended
    here_start = record { inside = omega arith; state = refl; ends = refl; good = none }

    pub here_goes : (rest : List ℕ) {q x n : ℕ} {w : List ℕ} {b t p k : ℕ} → Here c σ row q x n → drop q row ≡ w ++ rest → Goes c σ w b t p k → x < b
        → Here c σ row (q + length w) (x * t + p) (n + k)
    here_goes rest {q} {x} {n} {w} {b} {t} {p} {k} z e m h =
        let a : take (q + length w) row ≡ take q row ++ w
        = take-add q (length w) row ∙ ap (λ (r : List ℕ). take q row ++ r) (ap (take (length w)) e ∙ take-append_seam w rest) in
        let l : length row - q ≡ length w + length rest = sym (length-drop q row) ∙ ap length e ∙ length-append w rest in
        let r : ranks_ended c 0 (take q row ++ w) ≡ ranks_ended c 0 (take q row) ++ ranks_ended c x w
        = ranks_append c (take q row) w 0 ∙ ap (λ (y : ℕ). ranks_ended c 0 (take q row) ++ ranks_ended c y w) z.state in
        record {
          inside = omega (arith, l, z.inside);
          state = ap (state_after c 0) a ∙ state_append c (take q row) w 0 ∙ ap (λ (y : ℕ). state_after c y w) z.state ∙ m.state x h;
          ends = ap (λ (u : List ℕ). length (ranks_ended c 0 u)) a ∙ ap length r ∙ length-append (ranks_ended c 0 (take q row)) (ranks_ended c x w) ∙ ap₂ (λ (u v : ℕ). u + v) z.ends (m.ends x h);
          good = rw (a, r) (below_append z.good (m.good x h));
        }

    pub here_stop : {q x n : ℕ} → Here c σ row q x n → q < length row → get_or row q 0 < few c → ended_by c x (get_or row q 0) < σ → Here c σ row (suc q) 0 (n + 1)
    here_stop {q} {x} {n} z l h k =
        let y = get_or row q 0 in
        let m = goes_stop y (suc x) (goes_none 1) h (omega arith) (λ u a. let b : u * few c ≤ x * few c = mul-le-mul_right (few c) (omega arith) in omega arith) in
        here_as (sym (add-one q)) (omega arith) refl (here_goes (drop (suc q) row) z (drop-cons row q 0 l) m (omega arith))

    pub here_more : {q x n : ℕ} → Here c σ row q x n → q < length row → few c ≤ get_or row q 0 → Here c σ row (suc q) (opened_by c x (get_or row q 0)) n
    here_more {q} {x} {n} z l h =
        let y = get_or row q 0 in
        let m = goes_more y (suc x) (goes_none (suc (opened_by c x y))) h
        (λ u a. let b : u * many c ≤ x * many c = mul-le-mul_right (many c) (omega arith) in omega arith) in
        here_as (sym (add-one q)) (omega arith) (omega arith) (here_goes (drop (suc q) row) z (drop-cons row q 0 l) m (omega arith))

    pub here_few : {q x n : ℕ} → Here c σ row q x n → n ≤ q
    here_few {q} z = omega (arith, z.ends, ends_few c (take q row) 0, length-take-le q row z.inside)

-- ---- the symbols of a byte in a row

pub byte_split : (c : Code) → T (good_code c) → (buf : List ℕ) (h j : ℕ) → suc j * per c.k ≤ h → h ≤ length (symbols_of c.k buf)
    → drop (j * per c.k) (row_upto c h buf) ≡ symbols_of c.k (get_or buf j 0 ∷ []) ++ drop (suc j * per c.k) (row_upto c h buf)
byte_split c g buf h j a b =
    let k = c.k in
    let w : Width k = code_width c g in
    let all = symbols_of k buf in
    let one = symbols_of k (get_or buf j 0 ∷ []) in
    let n : suc j * per k ≡ j * per k + per k = omega arith in
    let l : length one ≡ per k = symbols_length k (get_or buf j 0 ∷ []) ∙ omega arith in
    let in_buf : j < length buf = starts_within w buf j (omega (arith, per_pos w)) in
    let e : drop (j * per k) all ≡ one ++ drop (suc j * per k) all
    = symbols_drop w j buf
    ∙ ap (symbols_of k) (drop-cons buf j 0 in_buf)
    ∙ symbols_append w (get_or buf j 0 ∷ []) (drop (suc j) buf)
    ∙ ap (λ (r : List ℕ). one ++ r) (sym (symbols_drop w (suc j) buf)) in
    let d : h - j * per k ≡ length one + (h - suc j * per k) = omega arith in
    sym (run_slice all (j * per k) h)
    ∙ ap (take (h - j * per k)) e
    ∙ ap (λ (m : ℕ). take m (one ++ drop (suc j * per k) all)) d
    ∙ take-append-add one (drop (suc j * per k) all) (h - suc j * per k)
    ∙ ap (λ (r : List ℕ). one ++ r) (run_slice all (suc j * per k) h)

-- ---- the moves of bytes

pub upto_le : (n d : ℕ) → 0 < d → (x : ℕ) → x < n / d + 1 → x * d ≤ n
upto_le n d p x h = (le-div_iff_mul-le p).0 (omega arith)

-- ---- a part of the moves in a row of its own

pub part_more : (part : ℕ → ℕ) (t r : List ℕ) (n : ℕ) → n < length r → PartIn part t n r → PartIn part t (n + 1) (set r n (part (get_or t n 0)))
part_more part t r n l z b h =
    elim (ℕ_discrete b n) [
      | yes q ↦ rw q (get_or-set_same r n (part (get_or t n 0)) 0 l)
      | no q ↦ get_or-set_other r n b (part (get_or t n 0)) 0 q ∙ z b (omega arith)
    ]

pub rows_are : (c : Code) (σ : ℕ) (t : List ℕ) (p : Parts) → MovesByByte c σ t
    → PartIn bound_in t 256 p.bound.now → PartIn times_in t 256 p.times.now → PartIn plus_in t 256 p.plus.now → PartIn stops_in t 256 p.stops.now → Rows c σ p
rows_are c σ t p m e f g h = record { low = λ b l. rw (e b l) (omega arith); moves = λ b l. rw (e b l, f b l, g b l, h b l) (m b l) }

-- there are 256 byte values
pub byte_values : (c : Code) → T (good_code c) → base c ^ per c.k ≡ 256
unfolding per
byte_values c g = by_width (λ k. (2 ^ k) ^ per k ≡ 256) (code_width c g) refl refl

module _ (c : Code) (σ : ℕ) where
  pub moves_never : (m : Move) → m.bound ≡ 0 → (w : List ℕ) → Moves c σ w m
  moves_never m e w = rw e (goes_never c σ w m.times m.plus m.stops)

  pub move_in : (w : List ℕ) (e : ℕ) (m : Move) → In e m → Moves c σ w m → MoveIn c σ w e
  move_in w e m q z = rw (q.bound, q.times, q.plus, q.stops) z

  pub move_out : (w : List ℕ) (e : ℕ) (m : Move) → In e m → MoveIn c σ w e → Moves c σ w m
  move_out w e m q z = rw (← q.bound, ← q.times, ← q.plus, ← q.stops) z

  -- ---- by one symbol more

  pub moves_start : (t : List ℕ) → MoveIn c σ [] (get_or t 0 0) → MovesOf c σ 0 t
  unfolding digits
  moves_start t m v h = let e : v ≡ 0 = omega (arith, pow-zero (base c)) in rw e m

  -- symbol y before row w of n symbols
  pub digits_before : (n y w : ℕ) → y < base c → w < base c ^ n → digits (base c) (suc n) (y * base c ^ n + w) ≡ y ∷ digits (base c) n w
  digits_before n y w h l =
      let e : suc n ≡ 1 + n = omega arith in
      rw e (digits_append (base c) 1 n y w (omega arith) l) ∙ ap (λ (u : List ℕ). u ++ digits (base c) n w) (digits_one (base c) y h)

  pub moves_bytes : T (good_code c) → (t : List ℕ) → MovesOf c σ (per c.k) t → MovesByByte c σ t
  moves_bytes g t m b h =
      let w : Width c.k = code_width c g in
      rw (byte_digits w b) (m b (omega (arith, byte_values c g)))

  -- a byte of a row, by its move
  pub here_byte : T (good_code c) → (buf : List ℕ) (h j : ℕ) {x n b t p k : ℕ} → suc j * per c.k ≤ h → h ≤ length (symbols_of c.k buf)
      → Goes c σ (symbols_of c.k (get_or buf j 0 ∷ [])) b t p k → x < b
      → Here c σ (row_upto c h buf) (j * per c.k) x n → Here c σ (row_upto c h buf) (suc j * per c.k) (x * t + p) (n + k)
  here_byte g buf h j a b m l z =
      let k = c.k in
      let d : suc j * per k ≡ j * per k + length (symbols_of k (get_or buf j 0 ∷ [])) = omega (arith, symbols_length k (get_or buf j 0 ∷ [])) in
      here_as d refl refl (here_goes c σ (row_upto c h buf) (drop (suc j * per k) (row_upto c h buf)) z (byte_split c g buf h j a b) m l)
