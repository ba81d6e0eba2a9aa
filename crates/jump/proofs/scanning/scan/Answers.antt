-- `jump::scanning::scan` meets its contract.
use Rattle.std.proofs.Common.{◌≡◌, List, [], ℕ, ◌+◌, ◌-◌, ◌*◌, ◌/◌, ◌^◌, ◌≤◌, ◌<◌, length, sym, ap, subst, ◌∙◌, arith, mul-le-mul_right, div-le_self, le-div_iff_mul-le}
use Rattle.ground.specs.Laws.Rows.{below_all}
use Rattle.stopper.specs.Laws.Table.{code_width}
use Rattle.symbols.specs.Paper.Symbols.{per}
use Rattle.symbols.specs.Laws.Width.{per_pos}
use Rattle.texts.specs.Paper.Hits.{listed}
use Rattle.texts.specs.Laws.Finding.{listed_none}
use Rattle.jump.specs.Helpers.Counting.{Counts}
use Rattle.jump.specs.Helpers.Hits.{hits_below}
use Rattle.jump.specs.Helpers.Windows.{Fits, first_of, Skipped}
use Rattle.jump.specs.Laws.Counting.{counts_none, counts_later, end_inside}
use Rattle.jump.specs.Laws.Hits.{no_hits}
use Rattle.jump.specs.Laws.Sought.{windows_fit}
use Rattle.jump.specs.Laws.Windows.{skip_hits, end_hits}
use Rattle.jump.specs.declared.scanning.Windows.{Windows}
use Rattle.jump.specs.declared.searched.Searched.{Searched}
use Rattle.jump.specs.declared.windows.Window.{Window}
use Rattle.jump.proofs.scanning.scan.Goals as goal

module _ (w : Windows) {full : ℕ} (whole : full ≡ w.searched.h / per w.searched.good.code.k) where
  abbrev s : Searched
  s = w.searched

  abbrev v : Window
  v = w.sought.v

  abbrev symbols : List ℕ
  symbols = w.sought.symbols.now

  fits : Fits s.good.code.k (length symbols) v
  fits = windows_fit w

  -- the whole bytes
  inside : (full ≤ length s.buf.now) × (full ≤ 2 ^ 24)
  inside = (
    omega (arith, whole, end_inside s.good.code s.good.good s.buf.now s.h s.inside),
    omega (arith, whole, s.few, div-le_self s.h (per s.good.code.k)),
  )

  within : (n : ℕ) → n ≤ full → n * per s.good.code.k ≤ s.h
  within n h = (le-div_iff_mul-le (per_pos (code_width s.good.code s.good.good))).0 (omega (arith, whole))

  -- the hits before the window from byte f on
  abbrev hits : ℕ → List ℕ
  hits f = hits_below s.good.code s.h s.buf.now symbols (first_of s.good.code.k v.free f)

  -- all that the loop keeps there
  abbrev Kept : (total next ended : ℕ) (old new : List ℕ) → ℕ → Type 0
  Kept total next ended old new f =
      Counts s.good.code s.buf.now (first_of s.good.code.k v.free f) next ended × (total ≡ length (hits f)) × (new ≡ listed (hits f) old)

  -- windows that are jumped over have no hit
  skipped : {from to total next ended : ℕ} (old new : List ℕ) → Skipped v.back v.places w.t.now s.buf.now from to → from ≤ to → v.wide ≤ from + 1 → to < full + v.wide
      → Kept total next ended old new (from + 1 - v.wide) → Kept total next ended old new (to + 1 - v.wide)
  skipped {from} {to} old new p le lo hi k =
      let q : ℕ = per s.good.code.k in
      let m : (from + 1 - v.wide) * q ≤ (to + 1 - v.wide) * q = mul-le-mul_right q (omega arith) in
      let e : hits (to + 1 - v.wide) ≡ hits (from + 1 - v.wide)
      = skip_hits s.good.code s.good.good (below_all 256 s.buf.now s.bytes) s.h s.inside symbols v fits w.t.now w.safe p lo (within (to + 1 - v.wide) (omega arith)) in
      (counts_later (omega arith) k.0, k.1 ∙ ap length (sym e), k.2 ∙ ap (λ (x : List ℕ). listed x old) (sym e))

  -- nothing is found before the first window
  first : (slice : List ℕ) → Kept 0 0 0 slice slice (v.wide - 1 + 1 - v.wide)
  first slice =
      let z : v.wide - 1 + 1 - v.wide ≡ 0 = omega (arith, fits.some, fits.sum) in
      let o : first_of s.good.code.k v.free (v.wide - 1 + 1 - v.wide) ≡ 0 = ap (first_of s.good.code.k v.free) z ∙ omega (arith, fits.few) in
      let e : hits (v.wide - 1 + 1 - v.wide) ≡ [] = ap (hits_below s.good.code s.h s.buf.now symbols) o ∙ no_hits s.good.code s.buf.now s.h symbols s.inside in
      (counts_none s.good.code s.buf.now _, sym (ap length e), sym (ap (λ (x : List ℕ). listed x slice) e ∙ listed_none slice))

  -- past the last window there is none
  last : (f : ℕ) → f ≤ full → full < f + v.wide → hits_below s.good.code s.h s.buf.now symbols s.h ≡ hits f
  last f h out =
      end_hits s.good.code s.good.good (below_all 256 s.buf.now s.bytes) s.h s.inside symbols v fits w.t.now w.safe f (within f h) (omega (arith, whole))

pub byte_of-full-requires : goal.byte_of-full-requires
byte_of-full-requires c = let s = c.args.windows.now.searched in code_width s.good.code s.good.good

pub skip-e-requires : goal.skip-e-requires
skip-e-requires c =
    let w = c.args.windows.now in
    let f = windows_fit w in
    let z = inside w c.byte_of-full.ensures in
    (f.near, f.some, omega (arith, f.sum, f.small), w.safe.under, z.0, z.1, omega (arith, f.sum, f.some), omega (arith, f.sum, f.some))

pub loop-e-init : goal.loop-e-init
loop-e-init c =
    let w = c.args.windows.now in
    let f = windows_fit w in
    let r = c.skip-e.ensures in
    let hi : c.skip-e.result < c.byte_of-full.result + w.sought.v.wide = omega (arith, r.1, f.sum) in
    let some : 0 < w.sought.v.wide = omega (arith, f.sum, f.some) in
    let k = skipped w c.byte_of-full.ensures c.args.slice.now _ r.2 r.0 (omega (arith, some)) hi (first w c.byte_of-full.ensures c.args.slice.now) in
    (omega (arith, r.0), hi, k.0, k.1, k.2)

pub try_window-found-requires : goal.try_window-found-requires
try_window-found-requires c =
    let k = c.loop-e.invariant in
    (within c.args.windows.now c.byte_of-full.ensures _ (omega (arith, k.0, c.loop-e-test.true)), k.2, k.3)

pub skip-e-requires-in-loop-e : goal.skip-e-requires-in-loop-e
skip-e-requires-in-loop-e c =
    let w = c.args.windows.now in
    let f = windows_fit w in
    let z = inside w c.byte_of-full.ensures in
    (f.near, f.some, omega (arith, f.sum, f.small), w.safe.under, z.0, z.1, omega (arith, c.loop-e.invariant.0, f.sum), omega (arith, c.loop-e-test.true, f.some))

pub loop-e-preserved : goal.loop-e-preserved
loop-e-preserved c =
    let w = c.args.windows.now in
    let v = w.sought.v in
    let r = c.skip-e-in-loop-e.ensures in
    let k = c.loop-e.invariant in
    let t = c.try_window-found.ensures in
    let hi : c.skip-e-in-loop-e.result < c.byte_of-full.result + v.wide = omega (arith, r.1, (windows_fit w).sum) in
    let next : c.loop-e.e + 1 - v.wide + 1 ≡ c.loop-e.e + 1 + 1 - v.wide = omega (arith, k.0) in
    let tried = subst (Kept w c.byte_of-full.ensures _ _ _ c.args.slice.now _) next (t.0, t.1, t.2 c.args.slice.now k.4) in
    let q = skipped w c.byte_of-full.ensures c.args.slice.now _ r.2 r.0 (omega (arith, k.0)) hi tried in
    (omega (arith, r.0, k.0), hi, q.0, q.1, q.2)

pub returns : goal.returns
returns c =
    let w = c.args.windows.now in
    let k = c.loop-e.invariant in
    let e = last w c.byte_of-full.ensures (c.loop-e.e + 1 - w.sought.v.wide) (omega (arith, k.1)) (omega (arith, k.0, c.loop-e-test.false)) in
    record { total = k.3 ∙ ap length (sym e); list = k.4 ∙ ap (λ (x : List ℕ). listed x c.args.slice.now) (sym e) }
