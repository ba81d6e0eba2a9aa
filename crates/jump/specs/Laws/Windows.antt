-- A jump by the table passes over no hit.
use Rattle.std.specs.Prelude.{◌≡◌, refl, List, ◌++◌, ℕ, zero, suc, ◌+◌, ◌-◌, ◌*◌, ◌/◌, ◌%◌, ◌^◌, ◌≤◌, ◌<◌, T, length}
use Rattle.std.proofs.Math.Path.{sym, ap}
use Rattle.std.proofs.Common.{subst, ◌∙◌, le_refl, mul-le-mul_right, mul-le-mul, div-add-mod', mod-lt, le-div_iff_mul-le, div-lt_iff_lt-mul, arith, pow_pos, get_or-drop, get_or-append-add}
use Rattle.std.proofs.Math.Decide.{dec_lt}
use Rattle.std.proofs.Math.Arith.{digits_lt, digits_div}
use Rattle.std.proofs.Math.ListN.{get_or, get_or-append}
use Rattle.ground.specs.Paper.Rows.{tab}
use Rattle.ground.specs.Helpers.Below.{Below}
use Rattle.ground.specs.Laws.Rows.{length_tab, tab_at, tab_below, get_or_below}
use Rattle.stopper.specs.Paper.Table.{good_code}
use Rattle.stopper.specs.Laws.Table.{code_width}
use Rattle.stopper.specs.declared.code.Code.{Code}
use Rattle.symbols.specs.Paper.Symbols.{per, symbols_of, byte_at}
use Rattle.symbols.specs.Helpers.Widths.{Width}
use Rattle.symbols.specs.Laws.Width.{per_pos, per_few}
use Rattle.symbols.specs.Laws.Rows.{symbols_below}
use Rattle.symbols.specs.Laws.Packing.{number_ext}
use Rattle.symbols.proofs.Laws.Packing.{byte_is}
use Rattle.jump.specs.Helpers.Hits.{occurs, hits_below}
use Rattle.jump.specs.Helpers.Windows.{byte_from, Fits, Safe, says, first_of, Skipped, none, also}
use Rattle.jump.specs.Laws.Table.{byte_behind}
use Rattle.jump.specs.Laws.Hits.{hits_none, stands_room, stands_symbol}
use Rattle.jump.specs.declared.windows.Window.{Window}

-- ---- sizes of a window

module _ {k long : ℕ} (w : Width k) {v : Window} (f : Fits k long v) where
  pub window_last : v.places * per k + v.back * per k + (per k - 1) ≤ v.free + long
  window_last = omega (arith, f.filled, ap (λ (n : ℕ). n * per k) f.sum)

  pub window_some : per k ≤ v.places * per k
  window_some = omega (arith, mul-le-mul_right (per k) f.some)

  pub window_small : v.wide * per k ≤ 1020
  window_small = omega (arith, mul-le-mul {n₁ = v.wide} {m₁ = per k} {n₂ = 255} {m₂ = 4} f.small (per_few w))

-- ---- windows jumped

module _ {back places : ℕ} {t buf : List ℕ} where
  skipped_on : {from to : ℕ} → Skipped back places t buf from to → from ≤ to
  skipped_on none = omega arith
  skipped_on (also s to e) = omega (arith, skipped_on s, e)

  -- on from where others end
  pub skipped_then : {from e to : ℕ} → Skipped back places t buf from e → Skipped back places t buf e to → Skipped back places t buf from to
  skipped_then p none = p
  skipped_then p (also s to e) = also (skipped_then p s) to e

  -- from a window that the table says `place` of: on to there, or if it is 0 by all places, and then as far as from the next
  pub skipped_ahead : (e place beyond ahead : ℕ) → says back t buf e ≡ place → Skipped back places t buf (e + places) (e + places + beyond)
      → (place ≡ 0 → ahead ≡ places + beyond) → (0 < place → ahead ≡ places - place) → Skipped back places t buf e (e + ahead)
  skipped_ahead e zero beyond ahead z p past there =
      let f : e + places + beyond ≡ e + ahead = omega (arith, past refl) in
      subst (Skipped back places t buf e) f (skipped_then (also none (e + places) (omega (arith, z))) p)
  skipped_ahead e (suc place) beyond ahead z p past there = also none (e + ahead) (omega (arith, z, there (omega arith)))

-- ---- where a pattern stands its symbols fill the bytes of the text

module _ (c : Code) (g : T (good_code c)) {buf : List ℕ} (bytes : Below 256 buf) (h : ℕ) (l : h ≤ length (symbols_of c.k buf)) (symbols : List ℕ) (free : ℕ) where
  abbrev k : ℕ
  k = c.k

  abbrev row : List ℕ
  row = symbols_of c.k buf

  width : Width c.k
  width = code_width c g

  -- the free symbols before symbol a: any, where there are none
  abbrev before : ℕ → List ℕ
  before a = tab (λ x. get_or row (a + x - free) 0) 0 free

  module _ (a : ℕ) (u : a < h) (t : T (occurs c h buf symbols a)) where
    -- symbol x of the pattern with the free ones before it
    known : (x : ℕ) → free ≤ a + x → x < free + length symbols → get_or (before a ++ symbols) x 0 ≡ get_or row (a + x - free) 0
    known x v y =
        elim (dec_lt x free) [
          | yes z ↦ get_or-append (before a) symbols 0 x (rw length_tab z) ∙ tab_at (λ x. get_or row (a + x - free) 0) free x z
          | no z ↦
              let e : length (before a) + (x - free) ≡ x = omega (arith, length_tab (λ x. get_or row (a + x - free) 0) 0 free) in
              ap (λ (n : ℕ). get_or (before a ++ symbols) n 0) (sym e)
              ∙ get_or-append-add (before a) symbols (x - free) 0
              ∙ sym (stands_symbol c buf h symbols l a u t (x - free) (omega arith))
              ∙ ap (λ (n : ℕ). get_or row n 0) (omega arith)
        ]

    -- its first o symbols, the free ones counted, stand before byte f: byte f + i is that of symbol i * per k + o
    pub full_byte : (o f i : ℕ) → a + o ≡ f * per c.k + free → i * per c.k + o + per c.k ≤ free + length symbols
        → get_or buf (f + i) 0 ≡ byte_from c.k (before a ++ symbols) (i * per c.k + o)
    unfolding byte_at
    full_byte o f i e fits =
        byte_is width bytes (f + i)
        ∙ number_ext (2 ^ c.k) _ _ (per c.k)
        (λ t ht.
        ap (λ (n : ℕ). get_or row n 0) (omega arith)
        ∙ sym (known (i * per c.k + o + t) (omega arith) (omega arith))
        ∙ ap (λ (n : ℕ). get_or (before a ++ symbols) n 0) (omega arith)
        ∙ sym (get_or-drop (i * per c.k + o) (before a ++ symbols) (0 * per c.k + t) 0))

  before_long : (a : ℕ) → length (before a) ≡ free
  before_long a = length_tab _ 0 free

  before_below : (a : ℕ) → Below (2 ^ c.k) (before a)
  before_below a = tab_below _ (2 ^ c.k) 0 free (λ x. get_or_below (symbols_below c.k buf) (pow_pos c.k) (a + x - free))

  -- the first byte of the window for symbol a, and how many symbols stand before it
  window_of : free < per c.k → (a : ℕ) → (o : ℕ) × (o < per c.k) × (a + o ≡ (a + (per c.k - 1 - free)) / per c.k * per c.k + free)
  window_of few a =
      let q : ℕ = per c.k in
      let d : ℕ = a + (q - 1 - free) in
      let r : d % q < q = mod-lt d (per_pos width) in
      (q - 1 - d % q, omega arith, omega (arith, div-add-mod' d q))

module _ (c : Code) (g : T (good_code c)) {buf : List ℕ} (bytes : Below 256 buf) (h : ℕ) (l : h ≤ length (symbols_of c.k buf)) (symbols : List ℕ)
    (v : Window) (fits : Fits c.k (length symbols) v) where
  -- a hit at symbol a has the window's last byte that goes with its alignment
  pub last_byte : (a o f : ℕ) → a < h → T (occurs c h buf symbols a) → o < per c.k → a + o ≡ f * per c.k + v.free → 1 < v.wide
      → get_or buf (f + v.wide - 1) 0 ≡ byte_from c.k symbols ((v.wide - 1) * per c.k + o - v.free)
  last_byte a o f u st lo e wide =
      let q : ℕ = per c.k in
      let w : List ℕ = before c g bytes h l symbols v.free a in
      let n : ℕ = (v.wide - 1) * q + o in
      let r : (v.wide - 1 + 1) * q ≡ v.wide * q = ap (λ (x : ℕ). x * q) (omega arith) in
      let one : 1 * q ≤ (v.wide - 1) * q = mul-le-mul_right q (omega arith) in
      let y : n ≡ length w + (n - v.free) = omega (arith, fits.few, before_long c g bytes h l symbols v.free a) in
      ap (λ (x : ℕ). get_or buf x 0) (omega arith)
      ∙ full_byte c g bytes h l symbols v.free a u st o f (v.wide - 1) e (omega (arith, fits.filled))
      ∙ ap (byte_from c.k (w ++ symbols)) y
      ∙ byte_behind c.k w symbols (n - v.free)

module _ (c : Code) (g : T (good_code c)) {buf : List ℕ} (bytes : Below 256 buf) (h : ℕ) (l : h ≤ length (symbols_of c.k buf)) (symbols : List ℕ)
    (v : Window) (fits : Fits c.k (length symbols) v) (t : List ℕ) (safe : Safe c.k v symbols t) where
  abbrev q : ℕ
  q = per c.k

  -- a hit d bytes on, inside the window
  inside : (a o f d i : ℕ) → a < h → T (occurs c h buf symbols a) → o < q → a + o ≡ (f + d) * q + v.free → i + d + 1 ≡ v.places → v.places ≤ says v.back t buf (f + v.wide - 1) + d
  inside a o f d i u st lo e m =
      let w : List ℕ = before c g bytes h l symbols v.free a in
      let byte = full_byte c g bytes h l symbols v.free a u st in
      let p : (i + v.back) * q + o ≡ i * q + o + v.back * q = omega arith in
      let r : (i + v.back + 1) * q ≤ v.wide * q = mul-le-mul_right q (omega (arith, fits.sum)) in
      let x : get_or buf (f + v.wide - 1 - v.back) 0 ≡ byte_from c.k (w ++ symbols) (i * q + o)
      = ap (λ (n : ℕ). get_or buf n 0) (omega (arith, fits.sum)) ∙ byte o (f + d) i e (omega (arith, fits.filled)) in
      let y : get_or buf (f + v.wide - 1) 0 ≡ byte_from c.k (w ++ symbols) (i * q + o + v.back * q)
      = ap (λ (n : ℕ). get_or buf n 0) (omega (arith, fits.sum)) ∙ byte o (f + d) (i + v.back) e (omega (arith, fits.filled)) ∙ ap (byte_from c.k (w ++ symbols)) p in
      let b : i * q + o < v.places * q = digits_lt (omega arith) lo in
      let n : suc ((i * q + o) / q) ≤ says v.back t buf (f + v.wide - 1)
      = rw (x, y) (safe.seen w (before_long c g bytes h l symbols v.free a) (before_below c g bytes h l symbols v.free a) (i * q + o) b) in
      omega (arith, digits_div i lo)

  jump_past : (a o s f : ℕ) → a < h → T (occurs c h buf symbols a) → o < q → a + o ≡ s * q + v.free → f ≤ s → f + (v.places - says v.back t buf (f + v.wide - 1)) ≤ s
  jump_past a o s f u st lo e le =
      elim (dec_lt (s - f) v.places) [
        | yes y ↦
            let r : f + (s - f) ≡ s = omega arith in
            let z : a + o ≡ (f + (s - f)) * q + v.free = e ∙ ap (λ (n : ℕ). n * q + v.free) (sym r) in
            omega (arith, inside a o f (s - f) (v.places - 1 - (s - f)) u st lo z (omega arith))
        | no y ↦ omega arith
      ]

  -- the jump passes over no hit
  pub jump_hits : (f : ℕ) → (f + (v.places - says v.back t buf (f + v.wide - 1))) * q ≤ h
      → hits_below c h buf symbols (first_of c.k v.free (f + (v.places - says v.back t buf (f + v.wide - 1)))) ≡ hits_below c h buf symbols (first_of c.k v.free f)
  jump_hits f in-h =
      let e : ℕ = f + (v.places - says v.back t buf (f + v.wide - 1)) in
      let few : v.free < q = fits.few in
      let mo : f * q ≤ e * q = mul-le-mul_right q (omega arith) in
      hits_none c buf h symbols l (first_of c.k v.free f) (first_of c.k v.free e) (omega arith) (omega arith)
      (λ a lo hi st.
      let (o, z, y) = window_of c g bytes h l symbols v.free few a in
      let s : ℕ = (a + (q - 1 - v.free)) / q in
      let a1 : f ≤ s = (le-div_iff_mul-le (per_pos (code_width c g))).1 (omega arith) in
      let a2 : s < e = (div-lt_iff_lt-mul (per_pos (code_width c g))).1 (omega arith) in
      omega (arith, jump_past a o s f (omega arith) st z y a1))

  -- past the last window there is none
  pub end_hits : (f : ℕ) → f * q ≤ h → h / q < f + v.wide → hits_below c h buf symbols h ≡ hits_below c h buf symbols (first_of c.k v.free f)
  end_hits f in-h out =
      let few : v.free < q = fits.few in
      hits_none c buf h symbols l (first_of c.k v.free f) h (omega arith) (le_refl h)
      (λ a lo hi st.
      let (o, z, y) = window_of c g bytes h l symbols v.free few a in
      let s : ℕ = (a + (q - 1 - v.free)) / q in
      let a1 : f ≤ s = (le-div_iff_mul-le (per_pos (code_width c g))).1 (omega arith) in
      let a2 : (s + v.wide) * q ≤ h = omega (arith, stands_room c buf h symbols l a hi st, fits.filled) in
      omega (arith, (le-div_iff_mul-le {k = q} {x = s + v.wide} {y = h} (per_pos (code_width c g))).1 a2))

  pub skip_hits : {from to : ℕ} → Skipped v.back v.places t buf from to → v.wide ≤ from + 1 → (to + 1 - v.wide) * q ≤ h
      → hits_below c h buf symbols (first_of c.k v.free (to + 1 - v.wide)) ≡ hits_below c h buf symbols (first_of c.k v.free (from + 1 - v.wide))
  skip_hits none some in-h = refl
  skip_hits (also {e = e} s to p) some in-h =
      let f : ℕ = e + 1 - v.wide in
      let last : f + v.wide - 1 ≡ e = omega (arith, skipped_on s) in
      let z : to + 1 - v.wide ≡ f + (v.places - says v.back t buf (f + v.wide - 1)) = omega (arith, skipped_on s, p, ap (says v.back t buf) last) in
      let le : f * q ≤ (to + 1 - v.wide) * q = mul-le-mul_right q (omega (arith, p)) in
      ap (λ (n : ℕ). hits_below c h buf symbols (first_of c.k v.free n)) z
      ∙ jump_hits f (rw (sym z) in-h)
      ∙ skip_hits s some (omega (arith, le))
