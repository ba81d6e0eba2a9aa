-- The laws of the rank by one number, and of what a row reads as by it: nearly all rest on how many rows of fewer continuers there are. They are here so that
-- an edit of that definition is refused at what rests on it; the rest of Laws/States stands in specs/.
use Rattle.std.specs.Prelude.{◌≡◌, T}
use Rattle.std.proofs.Math.Path.{refl, sym, ap}
use Rattle.std.proofs.Common.{subst, ◌∙◌, le-mul_of_pos_right}
use mathlib.Core.List.{List, [], ◌∷◌, ◌++◌, append-nil}
use Prim.Native.Nat.{ℕ, zero, suc, ◌+◌, ◌-◌, ◌*◌, ◌≤◌, ◌<◌}
use Rattle.std.proofs.Math.Nat.{add-mul}
use native.Mathlib.Omega.{arith}
use Rattle.std.proofs.Math.ListN.{length}
use Rattle.ground.specs.Helpers.Below.{Below, also}
use Rattle.stopper.specs.Paper.Code.{opens, shorter, rank_at}
use Rattle.stopper.specs.Paper.Table.{base, stoppers, good_code}
use Rattle.stopper.specs.Paper.Reading.{Fault, unfinished, beyond, Reading, done, bad, ahead, read_from}
use Rattle.stopper.specs.Laws.Table.{one_place, code_good}
use Rattle.stopper.specs.Laws.Reading.{aheads, aheads_done, read_stop, read_stuck, read_more, read_past}
use Rattle.stopper.specs.declared.code.Code.{Code}
use Rattle.moves.specs.Helpers.States.{fewer, state_of, few, many, ended_by, opened_by, state_after, ranks_ended, open_from, Stuck}
use Rattle.moves.specs.Laws.States.{after_stop, ranks_stop, open_stop, after_more, ranks_more, open_more, by_symbol}

module _ (c : Code) where
  -- ---- the rank by one number

  fewer_rank : (i : ℕ) → fewer c i * few c ≡ shorter (base c) (stoppers c) i
  unfolding fewer shorter
  fewer_rank zero = omega arith
  fewer_rank (suc i) =
      let o = opens (base c) (stoppers c) i in
      omega (arith, add-mul (fewer c i) o (few c), fewer_rank i, ap (λ (n : ℕ). o * n) (one_place c i))

  fewer_more : (i : ℕ) → fewer c (suc i) ≡ fewer c i * many c + 1
  unfolding fewer opens
  fewer_more zero = omega arith
  fewer_more (suc i) =
      let o = opens (base c) (stoppers c) i in
      omega (arith, fewer_more i, add-mul (fewer c i) o (many c), ap (λ (n : ℕ). o * (base c - n)) (one_place c i))

  rank_state : (i v y : ℕ) → rank_at (base c) (stoppers c) i v y ≡ ended_by c (state_of c i v) y
  unfolding rank_at
  rank_state i v y = omega (arith, fewer_rank i, add-mul v (fewer c i) (few c), ap (λ (n : ℕ). v * n) (one_place c i))

  pub more_state : (i v y : ℕ) → state_of c (suc i) (v * many c + (y - few c)) ≡ opened_by c (state_of c i v) y
  more_state i v y = omega (arith, fewer_more i, add-mul v (fewer c i) (many c))

  -- a state is 0 only where a codeword starts
  start_only : (i v : ℕ) → state_of c i v ≡ 0 → i ≡ 0
  start_only zero v e = refl
  start_only (suc i) v e = absurd (omega (arith, fewer_more i))

  module _ (g : T (good_code c)) (σ : ℕ) where
    abbrev read_on : ℕ → ℕ → ℕ → List ℕ → Reading
    read_on = read_from (base c) (stoppers c) σ

    pub stop_reads : (from i v y : ℕ) (w : List ℕ) → y < few c → ended_by c (state_of c i v) y < σ
        → read_on from i v (y ∷ w) ≡ ahead (ended_by c (state_of c i v) y) (read_on (from + suc i) 0 0 w)
    stop_reads from i v y w h k =
        read_stop (base c) (stoppers c) (code_good c g) σ from i v y w (rw (one_place c i) h) (rw (rank_state i v y) k)
        ∙ ap (λ (r : ℕ). ahead r (read_on (from + suc i) 0 0 w)) (rank_state i v y)

    pub more_reads : (from i v y : ℕ) (w : List ℕ) → few c ≤ y → read_on from i v (y ∷ w) ≡ read_on from (suc i) (v * many c + (y - few c)) w
    more_reads from i v y w h =
        read_more (base c) (stoppers c) (code_good c g) σ from i v y w (rw (one_place c i) h)
        ∙ ap (λ (n : ℕ). read_on from (suc i) (v * (base c - n) + (y - n)) w) (one_place c i)

    -- ---- a row, as far as its ranks are good

    -- what is read of `rest` after w, where the codeword open there starts, and how far it goes
    pub record Lands (from i v : ℕ) (w rest : List ℕ) : Type 0 where
      pub upto : ℕ
      pub value : ℕ
      pub fresh : upto ≡ 0 → value ≡ 0
      pub state : state_of c upto value ≡ state_after c (state_of c i v) w
      pub place : open_from c from (from + i) w + upto ≡ from + i + length w
      pub reads : read_on from i v (w ++ rest) ≡ aheads (ranks_ended c (state_of c i v) w) (read_on (open_from c from (from + i) w) upto value rest)

    pub lands : (w rest : List ℕ) (from i v : ℕ) → (i ≡ 0 → v ≡ 0) → Below σ (ranks_ended c (state_of c i v) w) → Lands from i v w rest
    unfolding fewer state_after ranks_ended open_from aheads
    lands [] rest from i v z b = record { upto = i; value = v; fresh = z; state = refl; place = omega arith; reads = refl }
    lands (y ∷ w) rest from i v z b =
        by_symbol c y
        (λ h.
        let e : suc (from + i) ≡ from + suc i + 0 = omega arith in
        let e' : from + suc i ≡ from + suc i + 0 = omega arith in
        let (k, l) = below_both (subst (Below σ) (ranks_stop c y w h (state_of c i v)) b) in
        let o = lands w rest (from + suc i) 0 0 (λ _. refl) l in
        let p : open_from c from (from + i) (y ∷ w) ≡ open_from c (from + suc i) (from + suc i + 0) w
        = open_stop c y w h from (from + i) ∙ ap (λ (q : ℕ). open_from c q q w) e ∙ ap (λ (q : ℕ). open_from c q (from + suc i + 0) w) (sym e') in
        record {
          upto = o.upto;
          value = o.value;
          fresh = o.fresh;
          state = o.state ∙ sym (after_stop c y w h (state_of c i v));
          place = omega (arith, ap (λ (q : ℕ). q + o.upto) p, o.place);
          reads =
              stop_reads from i v y (w ++ rest) h k
              ∙ ap (ahead (ended_by c (state_of c i v) y)) o.reads
              ∙ sym (ap (λ (q : ℕ). aheads (ended_by c (state_of c i v) y ∷ ranks_ended c 0 w) (read_on q o.upto o.value rest)) p)
              ∙ sym (ap (λ (rs : List ℕ). aheads rs (read_on (open_from c from (from + i) (y ∷ w)) o.upto o.value rest)) (ranks_stop c y w h (state_of c i v)));
        })
        (λ h.
        let e : suc (from + i) ≡ from + suc i = omega arith in
        let v' = v * many c + (y - few c) in
        let m = more_state i v y in
        let o = lands w rest from (suc i) v' (λ q. absurd (omega arith)) (rw m (subst (Below σ) (ranks_more c y w h (state_of c i v)) b)) in
        let p : open_from c from (from + i) (y ∷ w) ≡ open_from c from (from + suc i) w
        = open_more c y w h from (from + i) ∙ ap (λ (q : ℕ). open_from c from q w) e in
        let r : ranks_ended c (state_of c i v) (y ∷ w) ≡ ranks_ended c (state_of c (suc i) v') w = ranks_more c y w h (state_of c i v) ∙ ap (λ (x : ℕ). ranks_ended c x w) (sym m) in
        record {
          upto = o.upto;
          value = o.value;
          fresh = o.fresh;
          state = o.state ∙ ap (λ (x : ℕ). state_after c x w) m ∙ sym (after_more c y w h (state_of c i v));
          place = omega (arith, ap (λ (q : ℕ). q + o.upto) p, o.place);
          reads = more_reads from i v y (w ++ rest) h ∙ rw (r, p) o.reads;
        })
      where
        below_both : {r : ℕ} {rs : List ℕ} → Below σ (r ∷ rs) → (r < σ) × Below σ rs
        below_both (also k l) = (k, l)

    -- all codewords good, and none open at the end
    pub read_done : (w : List ℕ) → state_after c 0 w ≡ 0 → Below σ (ranks_ended c 0 w) → read_on 0 0 0 w ≡ done (ranks_ended c 0 w)
    unfolding fewer read_from
    read_done w e b =
        let o = lands w [] 0 0 0 (λ _. refl) b in
        ap (read_on 0 0 0) (sym (append-nil w)) ∙ o.reads
        ∙ ap (λ (i : ℕ). aheads (ranks_ended c 0 w) (read_on (open_from c 0 0 w) i o.value [])) (start_only o.upto o.value (o.state ∙ e))
        ∙ aheads_done (ranks_ended c 0 w) [] ∙ ap done (append-nil (ranks_ended c 0 w))

    -- ---- a codeword that is bad whatever follows

    pub stuck_stop : (x y : ℕ) (w : List ℕ) → y < few c → σ ≤ ended_by c x y → Stuck c σ x (y ∷ w)
    stuck_stop x y w h k = λ from i v z e.
        let r : rank_at (base c) (stoppers c) i v y ≡ ended_by c x y = rank_state i v y ∙ ap (λ (z : ℕ). ended_by c z y) e in
        (beyond, read_stuck (base c) (stoppers c) (code_good c g) σ from i v y w (rw (one_place c i) h) (rw r k))

    -- the state is at most the rank
    pub least : (i v : ℕ) → state_of c i v ≤ shorter (base c) (stoppers c) i + v
    least i v = omega (arith, fewer_rank i, le-mul_of_pos_right (fewer c i) ((code_good c g).low 0))

    pub stuck_more : (x y : ℕ) (w : List ℕ) → few c ≤ y → σ ≤ opened_by c x y → Stuck c σ x (y ∷ w)
    stuck_more x y w h k = λ from i v z e.
        let v' = v * many c + (y - few c) in
        let m : state_of c (suc i) v' ≡ opened_by c x y = more_state i v y ∙ ap (λ (z : ℕ). opened_by c z y) e in
        let (f, r) = read_past (base c) (stoppers c) (code_good c g) σ from i v' w (omega (arith, k, m, least (suc i) v')) in
        (f, more_reads from i v y w h ∙ r)

    pub stuck_end : (x : ℕ) → 0 < x → Stuck c σ x []
    unfolding fewer read_from
    stuck_end x h = λ from i v z e. at i from v z e
      where
        at : (i from v : ℕ) → (i ≡ 0 → v ≡ 0) → state_of c i v ≡ x → (f : Fault) × (read_on from i v [] ≡ bad f from [])
        at zero from v z e = absurd (omega (arith, z refl))
        at (suc i) from v z e = (unfinished, refl)

    pub aheads_bad : (rs : List ℕ) (f : Fault) (p : ℕ) (ts : List ℕ) → (us : List ℕ) × (aheads rs (bad f p ts) ≡ bad f p us)
    unfolding aheads ahead
    aheads_bad [] f p ts = (ts, refl)
    aheads_bad (r ∷ rs) f p ts = let (us, e) = aheads_bad rs f p ts in (r ∷ us, ap (ahead r) e)

    pub read_bad : (w rest : List ℕ) → Below σ (ranks_ended c 0 w) → Stuck c σ (state_after c 0 w) rest
        → (f : Fault) × (rs : List ℕ) × (read_on 0 0 0 (w ++ rest) ≡ bad f (open_from c 0 0 w) rs)
    unfolding fewer
    read_bad w rest b s =
        let o = lands w rest 0 0 0 (λ _. refl) b in
        let (f, e) = s (open_from c 0 0 w) o.upto o.value o.fresh o.state in
        let (rs, r) = aheads_bad (ranks_ended c 0 w) f (open_from c 0 0 w) [] in
        (f, rs, o.reads ∙ ap (aheads (ranks_ended c 0 w)) e ∙ r)
