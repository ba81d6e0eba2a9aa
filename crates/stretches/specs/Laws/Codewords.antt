-- Whole codewords by one number: what a symbol does to it, and what is heard meanwhile; and a symbol alone.
use Rattle.std.specs.Prelude.{◌≡◌, refl, Bool, ℕ, suc, ◌+◌, ◌-◌, ◌*◌, ◌^◌, ◌≤◌, ◌<◌, leb, take, drop, get_or, set}
use Rattle.std.proofs.Math.Path.{sym, ap}
use Rattle.std.proofs.Common.{ap₂, subst, ◌∙◌, inl, inr, add-mul, mul_right_comm, le-mul_of_pos_right, ltb→lt, nltb→le, leb→le, length-append, length-drop, length-set, take-suc, length-take-le, get_or-take, get_or-drop, get_or-set_same, get_or-set_other, ext_get_or}
use Rattle.std.proofs.Math.Bool.{true, false, and-true, and-false}
use mathlib.Core.List.{List, [], ◌∷◌, ◌++◌, append-nil}
use Rattle.std.proofs.Math.Nat.{le_refl, sub_self, add-zero}
use Rattle.std.proofs.Math.Decide.{ℕ_discrete, dec_lt}
use native.Mathlib.Omega.{arith}
use borrow.Author.Tests.{lt-ltb, le-ltb}
use Rattle.std.proofs.Math.Dec.{T, ltb, nleb→lt}
use Rattle.std.proofs.Math.ListN.{length}
use Rattle.ground.specs.Paper.Rows.{tab}
use Rattle.ground.specs.Paper.Runs.{run}
use Rattle.ground.specs.Laws.Rows.{tab_ext, below_at}
use Rattle.ground.specs.Laws.Runs.{set_over, take_over, take_to, run_length}
use Rattle.ground.specs.Laws.Tests.{by_test}
use Rattle.stopper.specs.Paper.Table.{base, stoppers, good_code}
use Rattle.stopper.specs.Helpers.State.{Small, opened, nearer, past_at, stepped}
use Rattle.stopper.specs.Laws.State.{step_rank, step_reach, step_on}
use Rattle.stopper.specs.Laws.Table.{one_place, code_good}
use Rattle.stopper.specs.declared.code.Code.{Code}
use Rattle.stopper.specs.declared.reading.Reader.{Reader}
use Rattle.stopper.specs.declared.reading.Step.TheVariants.{Rank, Bad, Open}
use Rattle.symbols.specs.Paper.Symbols.{per, symbols_of}
use Rattle.symbols.specs.Helpers.Widths.{Width}
use Rattle.symbols.specs.Laws.Rows.{symbols_in, symbols_below}
use Rattle.judge.specs.Paper.Judge.{progress, heard_as, ended_as, hears_all, ranks_heard}
use Rattle.judge.specs.Laws.Small.{open_small}
use Rattle.judge.specs.declared.records.Progress.{Progress}
use Rattle.stretches.specs.Helpers.Codewords.{bad_at, times_of, plus_of, low_of, stops_of, few, many, OpenBy, ByNumber, Passing, PassingAny, Through, Silent, ByteLaid, LaidOut}
use Rattle.stretches.specs.Laws.Symbol.{bad_not, heard_after, told_after, bad_here, past_here}

-- ---- a table filled entry after entry

abbrev pub Filled : (ℕ → ℕ) → ℕ → List ℕ → ℕ → Type 0
Filled f n l y = (length l ≡ n) × ((j : ℕ) → j < y → get_or l j 0 ≡ f j)

pub filled_more : (f : ℕ → ℕ) (n : ℕ) (l : List ℕ) (y v : ℕ) → Filled f n l y → y < n → v ≡ f y → Filled f n (set l y v) (y + 1)
filled_more f n l y v z h e = (length-set l y v ∙ z.0, λ j k. entry j k (ℕ_discrete j y))
  where
    entry : (j : ℕ) → j < y + 1 → Dec (j ≡ y) → get_or (set l y v) j 0 ≡ f j
    entry j k (yes q) = rw q (get_or-set_same l y v 0 (rw z.0 h) ∙ e)
    entry j k (no q) = get_or-set_other l y j v 0 q ∙ z.1 j (omega arith)

pub filled_all : (f : ℕ → ℕ) (n : ℕ) (l : List ℕ) {y : ℕ} → Filled f n l y → n ≤ y → l ≡ tab f 0 n
filled_all f n l z h = tab_ext f n l z.0 (λ i p. z.1 i (omega arith))

-- ---- symbols laid out, byte after byte

-- symbol i of the bytes from byte `first` on
abbrev pub laid_at : ℕ → List ℕ → ℕ → ℕ → ℕ
laid_at k piece first i = get_or (symbols_of k piece) (first * per k + i) 0

-- byte j of these bytes behind those before it
pub bytes_more : {k : ℕ} → Width k → (piece : List ℕ) (first j p : ℕ) → p ≡ per k → (row after : List ℕ) → Filled (laid_at k piece first) 256 row (j * p)
    → ByteLaid k (get_or piece (first + j) 0) (j * p) row after → Filled (laid_at k piece first) 256 after ((j + 1) * p)
bytes_more {k} w piece first j p q row after = rw q (λ z o. (o.same ∙ z.0, λ i h. entry z o i h (dec_lt i (j * per k))))
  where
    entry : Filled (laid_at k piece first) 256 row (j * per k) → ByteLaid k (get_or piece (first + j) 0) (j * per k) row after → (i : ℕ) → i < (j + 1) * per k → Dec (i < j * per k) → get_or after i 0 ≡ laid_at k piece first i
    entry z o i h (yes l) = o.before i l ∙ z.1 i l
    entry z o i h (no l) =
        let t : ℕ = i - j * per k in
        let e : j * per k + t ≡ i = omega arith in
        let few : t < per k = omega (arith, add-mul j 1 (per k)) in
        let n : first * per k + i ≡ (first + j) * per k + t = omega (arith, e, add-mul first j (per k)) in
        ap (λ (m : ℕ). get_or after m 0) (sym e) ∙ o.symbols t few ∙ sym (ap (λ (m : ℕ). get_or (symbols_of k piece) m 0) n ∙ symbols_in w piece (first + j) t few)

-- a run of what is laid out is one of the piece's symbols
module _ {k : ℕ} {piece : List ℕ} {first n : ℕ} {row : List ℕ} (z : LaidOut k piece first n row) where
  pub run_laid : (from to : ℕ) → from ≤ to → to ≤ n → run row from to ≡ run (symbols_of k piece) (first * per k + from) (first * per k + to)
  run_laid from to o h =
      let a : ℕ = first * per k in
      let whole : List ℕ = symbols_of k piece in
      let here = run_length row from to o (omega (arith, z.long, z.few)) in
      let there = run_length whole (a + from) (a + to) (omega arith) (omega (arith, z.inside)) in
      ext_get_or 0 (run row from to) (run whole (a + from) (a + to)) (omega (arith, here, there))
      (λ i l.
      let near : i < to - from = omega (arith, here) in
      let far : i < a + to - (a + from) = omega arith in
      let e : a + (from + i) ≡ a + from + i = omega arith in
      get_or-take (to - from) (drop from row) i 0 near ∙ get_or-drop from row i 0 ∙ z.symbols (from + i) (omega arith)
      ∙ ap (λ (j : ℕ). get_or whole j 0) e ∙ sym (get_or-take (a + to - (a + from)) (drop (a + from) whole) i 0 far ∙ get_or-drop (a + from) whole i 0))

  pub small_laid : (i : ℕ) → i < n → get_or row i 0 < 2 ^ k
  small_laid i h = rw (z.symbols i h) (below_at (symbols_below k piece) (first * per k + i) (omega (arith, z.inside)))

-- ---- what is looked up is small

pub low_small : (s y : ℕ) → y < 16 → low_of s y < 16
low_small s y h = by_test (ltb y s) (λ t. rw (lt-ltb y s (ltb→lt _ _ t)) h) (λ t. rw (le-ltb y s (nltb→le _ _ t)) (omega arith))

pub times_small : (s c y : ℕ) → times_of s c y ≤ c
times_small s c y = by_test (ltb y s) (λ t. rw (lt-ltb y s (ltb→lt _ _ t)) (omega arith)) (λ t. rw (le-ltb y s (nltb→le _ _ t)) (le_refl c))

pub plus_small : (s y : ℕ) → y < 16 → plus_of s y ≤ 16
plus_small s y h = by_test (ltb y s) (λ t. rw (lt-ltb y s (ltb→lt _ _ t)) (omega arith)) (λ t. rw (le-ltb y s (nltb→le _ _ t)) (omega arith))

pub stops_small : (s y : ℕ) → stops_of s y ≤ 1
stops_small s y = by_test (ltb y s) (λ t. rw (lt-ltb y s (ltb→lt _ _ t)) (omega arith)) (λ t. rw (le-ltb y s (nltb→le _ _ t)) (omega arith))

-- ---- a symbol more of a run

pub run_more : (row : List ℕ) (from i : ℕ) → from ≤ i → i < length row → run row from (i + 1) ≡ run row from i ++ (get_or row i 0 ∷ [])
run_more row from i h k =
    let e : i + 1 - from ≡ suc (i - from) = omega arith in
    let f : from + (i - from) ≡ i = omega arith in
    ap (λ (n : ℕ). take n (drop from row)) e
    ∙ take-suc (drop from row) (i - from) 0 (rw length-drop (omega arith))
    ∙ ap (λ (y : ℕ). run row from i ++ (y ∷ [])) (get_or-drop from row (i - from) 0 ∙ ap (λ (j : ℕ). get_or row j 0) f)

pub run_one : (row : List ℕ) (i : ℕ) → i < length row → run row i (i + 1) ≡ get_or row i 0 ∷ []
run_one row i h = run_more row i i (le_refl i) h ∙ rw (sub_self i)

-- ---- a codeword begins

pub opened_is : (r : Reader) → r.past ≡ false → r.place ≡ 0 → r.shorter ≡ 0 → r.rows ≡ 1 → r.value ≡ 0 → r ≡ opened
opened_is r a b d e f =
    ap₂ (λ (p : Bool) (i : ℕ). record { past = p; place = i; shorter = r.shorter; rows = r.rows; value = r.value }) a b
    ∙ ap₂ (λ (x y : ℕ). record { past = false; place = 0; shorter = x; rows = y; value = r.value }) d e
    ∙ ap (λ (v : ℕ). record { past = false; place = 0; shorter = 0; rows = 1; value = v }) f

-- ---- a place of a text stored: those before it, and with it

take_before : (l : List ℕ) (n v : ℕ) → n < length l → take n (set l n v) ≡ take n l
take_before l n v h = ap (take n) (set_over l n v h) ∙ take_over l n (v ∷ []) (n + 1) refl (omega arith) n (le_refl n)

take_with : (l : List ℕ) (n v : ℕ) → n < length l → take (n + 1) (set l n v) ≡ take n l ++ (v ∷ [])
take_with l n v h = ap (take (n + 1)) (set_over l n v h) ∙ take_to l n (v ∷ []) (n + 1) refl (omega arith)

pub take_first : (l : List ℕ) (v : ℕ) → 0 < length l → take 1 (set l 0 v) ≡ v ∷ []
take_first [] v h = absurd (omega arith)
take_first (x ∷ l) v h = refl

module _ (c : Code) (g : T (good_code c)) (σ : ℕ) where
  -- ---- a symbol and the number

  pub opened_small : Small opened
  opened_small = record { place = omega arith; shorter = omega arith; rows = omega arith; value = omega arith }

  pub number_none : ByNumber c σ opened 0
  number_none = inl (record { going = refl; rank = omega arith; row = omega arith })

  module _ (r : Reader) (x y : ℕ) where
    place_few : few c ≡ stoppers c r.place
    place_few = sym (one_place c r.place)

    pub number_stop : ByNumber c σ r x → y < few c → x * few c + y < σ → stepped c σ r y ≡ Rank (x * few c + y)
    number_stop (inl z) h k =
        let e : r.shorter + (r.value * few c + y) ≡ x * few c + y = omega (arith, z.rank) in
        step_rank c σ r y (few c) place_few h z.going (omega (arith, e)) ∙ ap Rank e
    number_stop (inr z) h k = absurd (omega (arith, z.1))

    -- the state after a continuer
    abbrev on : Reader
    on =
        record {
          past = false;
          place = nearer r.place;
          shorter = r.shorter + r.rows * few c;
          rows = r.rows * (base c - few c);
          value = r.value * (base c - few c) + (y - few c);
        }

    abbrev next : ℕ
    next = x * many c + (y - few c + 1)

    module _ (z : OpenBy c r x) where
      next_rank : on.shorter + on.value * few c ≡ next * few c
      next_rank =
          omega (
            arith,
            z.row,
            ap (λ (n : ℕ). n * many c) z.rank,
            add-mul r.shorter (r.value * few c) (many c),
            add-mul (x * many c) (y - few c + 1) (few c),
            add-mul (y - few c) 1 (few c),
            add-mul (r.value * many c) (y - few c) (few c),
            mul_right_comm x (many c) (few c),
            mul_right_comm r.value (many c) (few c),
          )

      next_row : on.shorter + on.rows * few c ≡ on.shorter * many c + few c
      next_row = omega (arith, z.row, add-mul r.shorter (r.rows * few c) (many c), mul_right_comm r.rows (many c) (few c))

    pub number_more : ByNumber c σ r x → few c ≤ y → x * few c < σ → (to : Reader) × (stepped c σ r y ≡ Open to) × ByNumber c σ to next
    number_more (inl z) h k =
        by_test (leb σ (on.shorter + on.value))
        (λ t.
        let l : on.value ≤ on.value * few c = le-mul_of_pos_right on.value ((code_good c g).low 0) in
        let b : σ ≤ on.shorter + on.value = leb→le _ _ t in (
          past_at (nearer r.place),
          step_reach c σ r y (few c) place_few (base c) refl h z.going b,
          inr (refl, omega (arith, next_rank z)),
        ))
        (λ t. (on, step_on c σ r y (few c) place_few (base c) refl h z.going (nleb→lt _ _ t), inl (record { going = refl; rank = next_rank z; row = next_row z })))
    number_more (inr z) h k = absurd (omega (arith, z.1))

  -- ---- a symbol more behind a row

  module _ (places : List ℕ) (h : ℕ) (q : Progress) {heard text : List ℕ} {x n : ℕ} (z : Passing c σ places h q heard text x n) (l : q.read + length heard < h) (y : ℕ)
      (room : n < length text) where
    abbrev more : List ℕ
    more = heard ++ (y ∷ [])

    length_more : q.read + length more ≡ q.read + length heard + 1
    length_more = omega (arith, length-append heard (y ∷ []))

    passing_open : (v : ℕ) {to : Reader} {x' : ℕ} → stepped c σ z.r y ≡ Open to → ByNumber c σ to x' → 0 < x' → Passing c σ places h q more (set text n v) x' n
    unfolding heard_as ended_as
    passing_open v {to} {x'} f b s =
        let late : ltb z.first (q.read + length heard + 1) ≡ true = lt-ltb z.first (q.read + length heard + 1) (omega (arith, z.started)) in
        record {
          r = to;
          first = z.first;
          number = b;
          started = omega (arith, z.started, length_more);
          closed = λ e _. absurd (omega arith);
          progress = heard_after c σ h (q.read + length heard) (q.count + n) z.first z.r q.stained y l q heard z.progress (Open to) f ∙ rw (length_more, late, and-true);
          told = told_after c σ h (q.read + length heard) (q.count + n) z.first z.r q.stained y l q heard z.progress (Open to) f places ∙ append-nil _ ∙ z.told ∙ sym (take_before text n v room);
        }

    passing_ended : {rank : ℕ} → stepped c σ z.r y ≡ Rank rank → Passing c σ places h q more (set text n (get_or places rank 0)) 0 (n + 1)
    unfolding heard_as ended_as
    passing_ended {rank} f =
        let never : ltb (q.read + length heard + 1) (q.read + length heard + 1) ≡ false = le-ltb _ _ (le_refl (q.read + length heard + 1)) in
        let one : q.count + (n + 1) ≡ q.count + n + 1 = omega arith in
        record {
          r = opened;
          first = q.read + length more;
          number = number_none;
          started = le_refl _;
          closed = λ _ _. (refl, refl);
          progress = heard_after c σ h (q.read + length heard) (q.count + n) z.first z.r q.stained y l q heard z.progress (Rank rank) f ∙ rw (length_more, one, never, and-false);
          told = told_after c σ h (q.read + length heard) (q.count + n) z.first z.r q.stained y l q heard z.progress (Rank rank) f places
              ∙ ap (λ (t : List ℕ). t ++ (get_or places rank 0 ∷ [])) z.told ∙ sym (take_with text n (get_or places rank 0) room);
        }

    -- by what is looked up
    pub passing_more : x * few c + low_of (few c) y < σ
        → Passing c σ places h q more (set text n (get_or places (x * few c + low_of (few c) y) 0)) (x * times_of (few c) (many c) y + plus_of (few c) y) (n + stops_of (few c) y)
    passing_more =
        by_test (ltb y (few c))
        (λ t.
        let k : y < few c = ltb→lt _ _ t in
        let e : x * 0 + 0 ≡ 0 = omega arith in
        rw (lt-ltb y (few c) k, e) (λ b. passing_ended (number_stop z.r x y z.number k b)))
        (λ t.
        let k : few c ≤ y = nltb→le _ _ t in
        rw (le-ltb y (few c) k, add-zero (x * few c), add-zero n)
        (λ b.
        let (to, f, o) = number_more z.r x y z.number k b in
        passing_open _ f o (omega arith)))

  -- wherever in a roll

  pub any_none : (places text : List ℕ) → PassingAny c σ places [] text 0 0
  unfolding hears_all ranks_heard
  any_none places text h read count first stained a l b =
      record {
        r = opened;
        first = first;
        number = number_none;
        started = omega arith;
        closed = λ _ k. absurd (omega arith);
        progress = rw (add-zero read, add-zero count) (ap (λ (bad : ℕ). progress read count first opened bad stained) (sym (bad_not c σ h read first l)));
        told = refl;
      }

  pub any_more : (places : List ℕ) {heard text : List ℕ} {x n : ℕ} → PassingAny c σ places heard text x n → (s m y : ℕ) → s ≡ few c → m ≡ many c → n < length text → x * s + low_of s y < σ
      → PassingAny c σ places (heard ++ (y ∷ [])) (set text n (get_or places (x * s + low_of s y) 0)) (x * times_of s m y + plus_of s y) (n + stops_of s y)
  any_more places {heard} z s m y e f room =
      rw (e, f)
      (λ k h read count first stained a l b.
      let under : read + length heard < h = omega (arith, length-append heard (y ∷ [])) in
      passing_more places h (progress read count first opened 0 stained) (z h read count first stained a l (omega arith)) under y room k)

  pub any_whole : (places heard text : List ℕ) (n : ℕ) → PassingAny c σ places heard text 0 n → 0 < length heard → n ≤ length heard → n ≤ length text
      → Through c σ places opened heard (take n text) opened true
  any_whole places heard text n z some f room =
      let e : length (take n text) ≡ n = length-take-le n text room in
      record {
        few = omega (arith, e);
        none = λ e. absurd (subst T e tt);
        going = refl;
        small = opened_small;
        heard = λ h read count first stained a l b. let p = z h read count first stained a l b in p.progress ∙ rw ((p.closed refl some).0, (p.closed refl some).1, e);
        told = λ h read count first stained a l b. (z h read count first stained a l b).told;
      }

  -- ---- a symbol

  module _ (r : Reader) (y : ℕ) where
    -- before symbol h no codeword is bad yet
    here_is : (h read count first stained : ℕ) → read < h → progress read count first r 0 stained ≡ progress read count first r (bad_at h read first) stained
    here_is h read count first stained l = ap (λ (bad : ℕ). progress read count first r bad stained) (sym (bad_not c σ h read first l))

    module _ (places : List ℕ) where
      pub through_ended : {rank : ℕ} → stepped c σ r y ≡ Rank rank → Through c σ places r (y ∷ []) (get_or places rank 0 ∷ []) opened true
      unfolding hears_all ranks_heard heard_as ended_as
      through_ended {rank} f =
          record {
            few = omega arith;
            none = λ e. absurd (subst T e tt);
            going = refl;
            small = opened_small;
            heard = λ h read count first stained a l b.
                let never : ltb (read + 1) (read + 1) ≡ false = le-ltb _ _ (le_refl (read + 1)) in
                heard_after c σ h read count first r stained y l (progress read count first r 0 stained) [] (here_is h read count first stained l) (Rank rank) f ∙ rw (never, and-false);
            told = λ h read count first stained a l b.
                told_after c σ h read count first r stained y l (progress read count first r 0 stained) [] (here_is h read count first stained l) (Rank rank) f places;
          }

      pub through_open : {on : Reader} → σ ≤ 256 → stepped c σ r y ≡ Open on → on.past ≡ false → Through c σ places r (y ∷ []) [] on false
      unfolding hears_all ranks_heard heard_as ended_as
      through_open {on} few f q =
          record {
            few = omega arith;
            none = λ e. refl;
            going = q;
            small = open_small c g σ few r y f;
            heard = λ h read count first stained a l b.
                let late : ltb first (read + 1) ≡ true = lt-ltb first (read + 1) (omega arith) in
                heard_after c σ h read count first r stained y l (progress read count first r 0 stained) [] (here_is h read count first stained l) (Open on) f ∙ rw (late, and-true, add-zero count);
            told = λ h read count first stained a l b.
                told_after c σ h read count first r stained y l (progress read count first r 0 stained) [] (here_is h read count first stained l) (Open on) f places;
          }

    pub silent_bad : stepped c σ r y ≡ Bad → (w : List ℕ) → Silent c σ r (y ∷ w)
    silent_bad e w h read count first stained l = ap (λ (q : Progress). ranks_heard c σ h q (y ∷ w)) (here_is h read count first stained l) ∙ bad_here c σ h read count first r stained y l e w

    pub silent_past : {on : Reader} → stepped c σ r y ≡ Open on → on.past ≡ true → (w : List ℕ) → Silent c σ r (y ∷ w)
    silent_past e q w h read count first stained l = ap (λ (q : Progress). ranks_heard c σ h q (y ∷ w)) (here_is h read count first stained l) ∙ past_here c σ h read count first r stained y l e q w
