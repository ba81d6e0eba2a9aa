-- `jump::scanning::try_window` meets its contract.
use Rattle.std.proofs.Common.{◌≡◌, List, [], ◌∷◌, ◌++◌, ℕ, ◌+◌, ◌*◌, ◌≤◌, ◌<◌, T, length, sym, ap, subst, ◌∙◌, arith, mul-le-mul_right, length-append}
use Rattle.ground.specs.Laws.Tests.{true_yes}
use Rattle.stopper.specs.Laws.Table.{code_width}
use Rattle.symbols.specs.Paper.Symbols.{per}
use Rattle.texts.specs.Paper.Hits.{listed}
use Rattle.jump.specs.Helpers.Counting.{number_at}
use Rattle.jump.specs.Helpers.Hits.{hits_below}
use Rattle.jump.specs.Helpers.Windows.{Fits}
use Rattle.jump.specs.Laws.Counting.{counts_later}
use Rattle.jump.specs.Laws.Hits.{hit_more, hit_none, hits_few}
use Rattle.jump.specs.Laws.Sought.{windows_fit}
use Rattle.jump.specs.declared.windows.Window.{Window}
use Rattle.jump.proofs.scanning.try_window.Goals as goal
use Rattle.jump.proofs.scanning.try_window.Goals.{then-is_hit_in, else-is_hit_in}

-- a symbol that a window is for is searched
inside : {k long h a q : ℕ} {v : Window} (f : ℕ) → Fits k long v → (f + v.wide) * per k ≤ h → q ≡ per k → a < f * q + v.free + 1 → a < h
inside {k} {long} {h} {a} {q} {v} f fits room e lt =
    let one : (f + 1) * per k ≤ (f + v.wide) * per k = mul-le-mul_right (per k) (omega (arith, fits.some, fits.sum)) in
    omega (arith, one, room, fits.few, ap (λ (n : ℕ). f * n) e)

pub per_byte-per-requires : goal.per_byte-per-requires
per_byte-per-requires c = let s = c.args.windows.now.searched in code_width s.good.code s.good.good

pub note-found-requires : goal.note-found-requires
note-found-requires c =
    let w = c.args.windows.now in
    let s = w.searched in
    let lt = inside c.args.f (windows_fit w) c.requires.0 c.per_byte-per.ensures c.loop-a-test.true in (
      omega (arith, lt),
      c.loop-a.invariant.0,
      omega (arith, c.loop-a.invariant.1, hits_few s.good.code s.buf.now s.h w.sought.symbols.now s.inside c.loop-a.a),
    )

pub loop-a-preserved : goal.loop-a-preserved
loop-a-preserved c =
    let w = c.args.windows.now in
    let s = w.searched in
    let symbols = w.sought.symbols.now in
    let a : ℕ = c.loop-a.a in
    let number : ℕ = number_at s.good.code s.buf.now a in
    let hits : ℕ → List ℕ = hits_below s.good.code s.h s.buf.now symbols in
    let lt = inside c.args.f (windows_fit w) c.requires.0 c.per_byte-per.ensures c.loop-a-test.true in
    elim c.if-is_hit_in.branch [
      | then-is_hit_in w ↦
          let e : hits (a + 1) ≡ hits a ++ (number ∷ [])
          = hit_more s.good.code s.buf.now s.h symbols s.inside a lt (c.is_hit_in.ensures.0 (true_yes _ w.if-is_hit_in.true)) in
          let n : length (hits (a + 1)) ≡ length (hits a) + 1 = ap length e ∙ length-append (hits a) (number ∷ []) in (
            rw w.found-is (counts_later (omega arith) w.note-found.ensures.1),
            rw w.found-is (omega (arith, w.note-found.ensures.0, c.loop-a.invariant.1, n)),
            (λ first z. w.slice-is ∙ w.note-found.ensures.2 (hits a) c.loop-a.invariant.1 first (c.loop-a.invariant.2 first z) ∙ ap (λ (x : List ℕ). listed x first) (sym e)),
          )
      | else-is_hit_in w ↦
          let e : hits (a + 1) ≡ hits a = hit_none s.good.code s.buf.now s.h symbols s.inside a lt (λ x. subst T w.if-is_hit_in.false (c.is_hit_in.ensures.1 x)) in (
            rw w.found-is (counts_later (omega arith) c.loop-a.invariant.0),
            rw w.found-is (c.loop-a.invariant.1 ∙ ap length (sym e)),
            (λ first z. w.slice-is ∙ c.loop-a.invariant.2 first z ∙ ap (λ (x : List ℕ). listed x first) (sym e)),
          )
    ]
