-- `stopper::word::spell_word` meets its contract: the stopper stored at its place, and the continuers spelt before it.
use Rattle.std.proofs.Common.{◌≡◌, sym, ap, ◌∙◌, ℕ, ◌+◌, ◌≤◌, ◌<◌, T, arith, length-set}
use Rattle.std.proofs.Math.Nat.{mod-lt}
use Rattle.stopper.specs.Paper.Table.{stoppers, good_code, length_of}
use Rattle.stopper.specs.Helpers.Answers.{place_of}
use Rattle.stopper.specs.Laws.Table.{code_base, code_good, length_place}
use Rattle.stopper.specs.declared.code.Code.{Code}
use Rattle.stopper.specs.declared.code.Place.{Place}
use Rattle.stopper.proofs.Spelling.{written}
use Rattle.stopper.proofs.word.spell_word.Goals as goal

-- there are stoppers, fewer than 16
some : (code : Code) (i : ℕ) {s : ℕ} → T (good_code code) → s ≡ stoppers code i → (0 < s) × (s < 16)
some code i g e =
    let k = code_good code g in
    omega (arith, e, k.low i, k.high i, code_base code g)

-- the stopper's place is inside
inside : (code : Code) (rank : ℕ) {p : Place} {n : ℕ} → T (good_code code) → p ≡ place_of code rank → length_of code rank ≤ n → p.at < n
inside code rank g e h = omega (arith, length_place code g rank, ap (λ (x : Place). x.at) e)

pub nonzero_rem-out : goal.nonzero_rem-out
nonzero_rem-out c = (some c.args.good.code _ c.args.good.good c.stoppers_at-s.ensures).0

pub overflow_cast-out : goal.overflow_cast-out
overflow_cast-out c =
    let s = some c.args.good.code _ c.args.good.good c.stoppers_at-s.ensures in
    omega (arith, mod-lt c.place_of-p.result.q s.0)

pub bounds-out-i : goal.bounds-out-i
bounds-out-i c = inside c.args.good.code c.args.rank c.args.good.good c.place_of-p.ensures c.requires.1

pub nonzero_div-q : goal.nonzero_div-q
nonzero_div-q c = (some c.args.good.code _ c.args.good.good c.stoppers_at-s.ensures).0

pub emit-requires : goal.emit-requires
emit-requires c = simp length-set (omega (arith, inside c.args.good.code c.args.rank c.args.good.good c.place_of-p.ensures c.requires.1))

pub shape_of-out : goal.shape_of-out
shape_of-out c = simp length-set at c.emit.auto.out

pub returns : goal.returns
returns c =
    let p = c.place_of-p in
    record {
      length = ap (λ (x : Place). x.at + 1) p.ensures ∙ sym (length_place c.args.good.code c.args.good.good c.args.rank);
      symbols = c.emit.ensures
          ∙ written c.args.good.code c.args.good.good c.args.rank _ p.result c.args.out.now p.ensures c.stoppers_at-s.ensures
          (inside c.args.good.code c.args.rank c.args.good.good p.ensures c.requires.1);
    }
