-- `stretches::codewords::pass_all` meets its contract: the number x stands for the codeword that is open before symbol i.
use Rattle.std.proofs.Common.{◌≡◌, ℕ, ◌+◌, ◌-◌, ◌*◌, ◌≤◌, ◌<◌, T, List, true, length, take, get_or, set, ◌∙◌, ap₂, arith, mul-le-mul, le-mul_of_pos_right, length-set}
use Rattle.std.proofs.Math.Nat.{sub_self}
use Rattle.ground.specs.Paper.Runs.{run}
use Rattle.ground.specs.Laws.Runs.{run_length}
use Rattle.stopper.specs.Helpers.State.{opened}
use Rattle.stopper.specs.Paper.Table.{base, stoppers, good_code}
use Rattle.stopper.specs.Laws.Table.{code_base, code_good}
use Rattle.stopper.specs.declared.code.Code.{Code}
use Rattle.stretches.specs.Helpers.Codewords.{RolesOf, role_of, PassingAny, Through}
use Rattle.stretches.specs.Laws.Codewords.{low_small, times_small, plus_small, stops_small, run_more, any_none, any_more, any_whole}
use Rattle.stretches.specs.declared.codewords.Role.{Role}
use Rattle.stretches.proofs.codewords.pass_all.Goals as goal

-- a good code of m symbols and s stoppers
record Numbers (code : Code) (m s : ℕ) : Type 0 where
  good : T (good_code code)
  all : m ≡ base code
  stops : s ≡ stoppers code 0

-- from 1 stopper to 15, and no more continuers
some_stop : {code : Code} {m s : ℕ} → Numbers code m s → 0 < s
some_stop {code} z = omega (arith, z.stops, (code_good code z.good).low 0)

most_stops : {code : Code} {m s : ℕ} → Numbers code m s → s ≤ m
most_stops {code} z = omega (arith, z.stops, z.all, (code_good code z.good).high 0)

few : {code : Code} {m s : ℕ} → Numbers code m s → m ≤ 16
few {code} z = omega (arith, z.all, (code_base code z.good).1)

-- what a symbol y does
record Looked (code : Code) (m s y : ℕ) (role : Role) : Type 0 where
  numbers : Numbers code m s
  small : y < 16
  is : role ≡ role_of s (m - s) y

abbrev none : Role
none = record { times = 0; plus = 0; low = 0; stops = 0 }

looked_up : {code : Code} {m s y x : ℕ} {roles : List Role} → T (good_code code) → m ≡ base code → s ≡ stoppers code 0 → RolesOf s (m - s) roles → y ≡ x → x < 16 → (d : Role)
    → Looked code m s y (get_or roles y d)
looked_up good all stops roles e h d =
    record { numbers = record { good = good; all = all; stops = stops }; small = rw e h; is = roles.each _ d (rw e h) }

module _ {code : Code} {m s y : ℕ} {role : Role} (z : Looked code m s y role) where
  low_fits : role.low < 16
  low_fits = rw z.is (low_small s y z.small)

  stop_fits : role.stops ≤ 1
  stop_fits = rw z.is (stops_small s y)

  plus_fits : role.plus ≤ 16
  plus_fits = rw z.is (plus_small s y z.small)

  -- the number stays small: a rank below σ is at least the number
  rank_fits : (x : ℕ) → x ≤ 4096 → x * s ≤ 65536
  rank_fits x h = mul-le-mul {n₂ = 4096} {m₂ = 16} h (omega (arith, most_stops z.numbers, few z.numbers))

  number_fits : (x σ : ℕ) → σ ≤ 256 → x * s + role.low < σ → x * role.times ≤ 4080
  number_fits x σ most h =
      let a : x ≤ 255 = omega (arith, le-mul_of_pos_right x (some_stop z.numbers)) in
      let b : role.times ≤ 16 = rw z.is (omega (arith, times_small s (m - s) y, few z.numbers)) in
      mul-le-mul {n₂ = 255} {m₂ = 16} a b

  more : (σ : ℕ) (places row text : List ℕ) (from i x n : ℕ) → from ≤ i → i < length row → y ≡ get_or row i 0 → n < length text → PassingAny code σ places (run row from i) text x n
      → x * s + role.low < σ
      → PassingAny code σ places (run row from (i + 1)) (set text n (get_or places (x * s + role.low) 0)) (x * role.times + role.plus) (n + role.stops)
  more σ places row text from i x n o inside e room before =
      let k = z.numbers in
      rw (z.is, run_more row from i o inside, ← e) (any_more code k.good σ places before s (m - s) y k.stops (ap₂ (λ (a b : ℕ). a - b) k.all k.stops) room)

-- where no codeword is open at the end
whole : (code : Code) → T (good_code code) → (σ : ℕ) (places row text : List ℕ) (from to n : ℕ) {i x : ℕ} → from < to → to ≤ length row → from + n ≤ to → n ≤ length text → i ≡ to → x ≡ 0
    → PassingAny code σ places (run row from i) text x n → Through code σ places opened (run row from to) (take n text) opened true
whole code good σ places row text from to n o inside few room at none =
    let long = run_length row from to (omega arith) inside in
    rw (at, none) (λ z. any_whole code good σ places (run row from to) text n z (omega (arith, long)) (omega (arith, long)) room)

pub overflow_sub-c : goal.overflow_sub-c
overflow_sub-c c = most_stops (record { good = c.args.alphabet.now.ranks.good.good; all = c.base_of.ensures; stops = c.stoppers_at-s.ensures })

pub loop-i-init : goal.loop-i-init
loop-i-init c =
    let a = c.args.alphabet.now in
    (omega arith, omega arith, c.requires.long, rw sub_self (any_none a.ranks.good.code a.ranks.good.good a.ranks.sigma a.places.now c.args.text.now))

pub overflow_mul-rank : goal.overflow_mul-rank
overflow_mul-rank c =
    omega (arith, rank_fits (looked_up c.args.alphabet.now.ranks.good.good c.base_of.ensures c.stoppers_at-s.ensures c.roles_of-roles.ensures c.from.ensures (c.requires.small _ c.loop-i-test.true) none) c.loop-i.x c.loop-i.invariant.1)

pub overflow_add-rank : goal.overflow_add-rank
overflow_add-rank c =
    let z = looked_up c.args.alphabet.now.ranks.good.good c.base_of.ensures c.stoppers_at-s.ensures c.roles_of-roles.ensures c.from.ensures (c.requires.small _ c.loop-i-test.true) none in
    omega (arith, rank_fits z c.loop-i.x c.loop-i.invariant.1, low_fits z)

pub overflow_mul-x : goal.overflow_mul-x
overflow_mul-x c =
    let a = c.args.alphabet.now in
    let z = looked_up a.ranks.good.good c.base_of.ensures c.stoppers_at-s.ensures c.roles_of-roles.ensures c.from.ensures (c.requires.small _ c.loop-i-test.true) none in
    omega (arith, number_fits z c.loop-i.x a.ranks.sigma a.ranks.few c.if-ranks-rank.false)

pub overflow_add-x : goal.overflow_add-x
overflow_add-x c =
    let a = c.args.alphabet.now in
    let z = looked_up a.ranks.good.good c.base_of.ensures c.stoppers_at-s.ensures c.roles_of-roles.ensures c.from.ensures (c.requires.small _ c.loop-i-test.true) none in
    omega (arith, number_fits z c.loop-i.x a.ranks.sigma a.ranks.few c.if-ranks-rank.false, plus_fits z)

pub loop-i-preserved : goal.loop-i-preserved
loop-i-preserved c =
    let a = c.args.alphabet.now in
    let (room, _, long, passing) = c.loop-i.invariant in
    let z = looked_up a.ranks.good.good c.base_of.ensures c.stoppers_at-s.ensures c.roles_of-roles.ensures c.from.ensures (c.requires.small _ c.loop-i-test.true) none in (
      omega (arith, stop_fits z),
      omega (arith, number_fits z c.loop-i.x a.ranks.sigma a.ranks.few c.if-ranks-rank.false, plus_fits z),
      length-set _ _ _ ∙ long,
      more z a.ranks.sigma a.places.now c.args.row.now c.loop-i.text c.args.from c.loop-i.i c.loop-i.x c.loop-i.n (omega arith) (omega arith) c.from.ensures (omega arith) passing c.if-ranks-rank.false,
    )

pub returns : goal.returns
returns c =
    let a = c.args.alphabet.now in
    let (room, _, long, passing) = c.loop-i.invariant in
    record {
      long = long;
      short = tt;
      few = omega arith;
      whole = whole a.ranks.good.code a.ranks.good.good a.ranks.sigma a.places.now c.args.row.now c.loop-i.text c.args.from c.args.to c.loop-i.n c.requires.order c.requires.inside (omega arith) (omega arith)
          (omega arith) c.if-x-ne0.false passing;
    }
