-- A pattern stands in a text exactly where its symbols stand at the start of a codeword of the packed text.
use Rattle.std.specs.Prelude.{◌≡◌, refl, ◌↔◌, take, drop, get_or}
use Rattle.std.proofs.Math.Path.{sym, ap, subst}
use Rattle.std.proofs.Common.{◌∙◌, add-suc, le_of_suc-le-suc, get_or-append-add}
use mathlib.Core.List.{List, [], ◌∷◌, ◌++◌, map}
use Prim.Native.Nat.{ℕ, zero, suc, ◌+◌, ◌-◌, ◌≤◌, ◌<◌}
use Rattle.std.proofs.Math.Decide.{dec_lt}
use native.Mathlib.Omega.{arith}
use Rattle.std.proofs.Math.Dec.{T}
use Rattle.std.proofs.Math.ListN.{length, length-append, length-map, get_or-append}
use Rattle.ground.specs.Helpers.Below.{Below}
use Rattle.ground.specs.Laws.Tests.{same_test}
use Rattle.ground.specs.Laws.Rows.{map_drop}
use Rattle.stopper.specs.Paper.Code.{Good, IsCodeword, stop as stopper, more as continuer, place, codeword}
use Rattle.stopper.specs.Paper.Reading.{Reading, done, read_from, write}
use Rattle.stopper.specs.Paper.Table.{base, stoppers, good_code, rank_in, length_of, characters}
use Rattle.stopper.specs.Laws.Characters.{◌∈◌}
use Rattle.stopper.specs.Laws.Reading.{aheads, ahead_done, write_append}
use Rattle.stopper.proofs.Laws.Reading.{read_front, read_write}
use Rattle.stopper.specs.Laws.Code.{length_codeword}
use Rattle.stopper.proofs.Laws.Code.{codeword_word}
use Rattle.stopper.specs.Laws.Table.{one_number, code_good}
use Rattle.stopper.specs.declared.code.Code.{Code}
use Rattle.texts.specs.Paper.Hits.{stands, hits}
use Rattle.texts.specs.Paper.Directory.{start_at}
use Rattle.texts.specs.Laws.Characters.{InTable, ranks_below, known_drop}
use Rattle.texts.specs.Laws.Hits.{stands_ranks, Front, hit_is, stands_front, front_stands}
use Rattle.reading.specs.Paper.Reading.{row_upto, ranks_read}
use Rattle.sound.specs.Paper.Roll.{text_row, symbols_for, reading, text_of, Sound}
use Rattle.sound.specs.Paper.Lengths.{lengths_of}
use Rattle.sound.specs.Helpers.Held.{Held}
use Rattle.sound.specs.Laws.Starts.{start_at_lem, drop_start}
use Rattle.sound.specs.Laws.Sound.{sound_code, sound_row, sound_length}
use Rattle.sound.specs.Laws.Holding.{sound_known, sound_ranked}
use Rattle.sound.specs.declared.records.Roll.{Roll}
use Rattle.find.specs.Helpers.Finding.{stands_at}

-- ---- codewords stand where their ranks stand

module _ (m : ℕ) (s : ℕ → ℕ) (g : Good m s) (σ : ℕ) where
  aheads_split : (ps : List ℕ) (o : Reading) (us : List ℕ) → aheads ps o ≡ done us → Front ps us
  unfolding aheads
  aheads_split [] o us e = (us, refl)
  aheads_split (p ∷ ps) o us e =
      let (ts, f, q) = ahead_done p (aheads ps o) us e in
      let (r, k) = aheads_split ps o ts f in
      (r, sym q ∙ ap (λ (z : List ℕ). p ∷ z) k)

  pub stands_write : {ps us : List ℕ} → Below σ ps → Below σ us → stands (write m s ps) (write m s us) ≡ stands ps us
  stands_write {ps} {us} hp hu =
      same_test _ _
      (λ t.
      let f = stands_front (write m s ps) (write m s us) t in
      front_stands ps us (aheads_split ps _ us (sym (read_front m s g σ 0 hp f.0) ∙ ap (read_from m s σ 0 0 0) (sym f.1) ∙ read_write m s g σ 0 hu)))
      (λ t.
      let f = stands_front ps us t in
      front_stands (write m s ps) (write m s us) (write m s f.0, ap (write m s) f.1 ∙ write_append m s ps f.0))

-- ---- the packed pattern stands at the start of codeword i exactly if the pattern stands at character i

module _ (c : Code) (g : T (good_code c)) (l : List ℕ) {p t : List ℕ} (hp : InTable l p) (ht : InTable l t) (i : ℕ) where
  pub hit_word : stands (text_row c l p) (write (base c) (stoppers c) (drop i (map (rank_in l) t))) ≡ stands p (drop i t)
  unfolding text_row
  hit_word =
      rw map_drop
      (stands_write (base c) (stoppers c) (code_good c g) (length l) (ranks_below l hp) (ranks_below l (known_drop ht i)) ∙ stands_ranks l hp (known_drop ht i))

  pub hit_start : stands (text_row c l p) (drop (start_at (map (length_of c) (map (rank_in l) t)) i) (text_row c l t)) ≡ stands p (drop i t)
  unfolding text_row
  hit_start = rw (drop_start c (map (rank_in l) t) i) hit_word

-- ---- where every place has the same number of stoppers, a codeword starts at the first symbol and after each stopper

-- the symbol before symbol q, if there is one, is a stopper
abbrev pub AfterStopper : ℕ → List ℕ → ℕ → Type 0
AfterStopper stop row zero = Unit {0}
AfterStopper stop row (suc q) = get_or row q 0 < stop

module _ (m : ℕ) (s : ℕ → ℕ) (g : Good m s) (stop : ℕ) (even : (i : ℕ) → s i ≡ stop) where
  -- a codeword's symbols but the last are no stoppers, and the last is one
  word_inner : {i : ℕ} {w : List ℕ} → IsCodeword m s i w → (q : ℕ) → suc q < length w → stop ≤ get_or w q 0
  word_inner (stopper h) q k = absurd (omega arith)
  word_inner (continuer {i = i} a b h) zero k = omega (arith, even i)
  word_inner (continuer a b h) (suc q) k = word_inner h q (le_of_suc-le-suc k)

  word_last : {i : ℕ} {w : List ℕ} → IsCodeword m s i w → (n : ℕ) → length w ≡ suc n → get_or w n 0 < stop
  word_last (stopper {i = i} h) zero e = omega (arith, even i)
  word_last (stopper h) (suc n) e = absurd (omega arith)
  word_last (continuer a b (stopper h)) zero e = absurd (omega arith)
  word_last (continuer a b (continuer c d h)) zero e = absurd (omega arith)
  word_last (continuer a b h) (suc n) e = word_last h n (omega arith)

  -- within the first codeword only its first symbol is after a stopper
  after_first : {w : List ℕ} → IsCodeword m s 0 w → (u : List ℕ) (q : ℕ) → q < length w → AfterStopper stop (w ++ u) q → q ≡ 0
  after_first c u zero k a = refl
  after_first {w} c u (suc q) k a = absurd (omega (arith, word_inner c q k, get_or-append w u 0 q (omega arith)))

  -- and from its end on those that are so in the rest
  after_later : (w u : List ℕ) (q : ℕ) → AfterStopper stop (w ++ u) (length w + q) → AfterStopper stop u q
  after_later w u zero a = tt
  after_later w u (suc q) a =
      let b : get_or (w ++ u) (length w + q) 0 < stop = subst (AfterStopper stop (w ++ u)) (add-suc (length w) q) a in
      omega (arith, get_or-append-add w u q 0)

  later_after : (w u : List ℕ) (n : ℕ) → length w ≡ suc n → get_or w n 0 < stop → (q : ℕ) → AfterStopper stop u q → AfterStopper stop (w ++ u) (length w + q)
  later_after w u n e k zero a =
      let f : length w + 0 ≡ suc n = omega arith in
      subst (AfterStopper stop (w ++ u)) (sym f) (omega (arith, get_or-append w u 0 n (omega arith)))
  later_after w u n e k (suc q) a = subst (AfterStopper stop (w ++ u)) (sym (add-suc (length w) q)) (omega (arith, get_or-append-add w u q 0))

  after_starts : (rs : List ℕ) (q : ℕ) → q < length (write m s rs) → AfterStopper stop (write m s rs) q → (i : ℕ) × (i < length rs) × (q ≡ length (write m s (take i rs)))
  unfolding write
  after_starts [] q h a = absurd (omega arith)
  after_starts (r ∷ rs) q h a =
      let w : List ℕ = codeword m s r in
      let u : List ℕ = write m s rs in
      elim (dec_lt q (length w)) [
        | yes k ↦ (0, omega arith, after_first (codeword_word m s g r) u q k a)
        | no k ↦
            let d : length w + (q - length w) ≡ q = omega arith in
            let (i, hi, e) = after_starts rs (q - length w) (omega (arith, length-append w u)) (after_later w u (q - length w) (subst (AfterStopper stop (w ++ u)) (sym d) a)) in
            (suc i, omega arith, omega (arith, d, e, length-append w (write m s (take i rs))))
      ]

  -- also behind the last codeword
  pub starts_after : (rs : List ℕ) (i : ℕ) → i ≤ length rs → AfterStopper stop (write m s rs) (length (write m s (take i rs)))
  unfolding write
  starts_after rs zero h = tt
  starts_after [] (suc i) h = absurd (omega arith)
  starts_after (r ∷ rs) (suc i) h =
      let w : List ℕ = codeword m s r in
      let n : length w ≡ suc (place m s r) = length_codeword m s g r in
      subst (AfterStopper stop (w ++ write m s rs)) (sym (length-append w (write m s (take i rs))))
      (later_after w (write m s rs) (place m s r) n (word_last (codeword_word m s g r) (place m s r) n) _ (starts_after rs i (le_of_suc-le-suc h)))

-- ---- a sound roll

module _ {r : Roll} {buf : List ℕ} (s : Sound r buf) where
  -- what stands from the start of codeword i on
  pub stands_start : (symbols : List ℕ) (i : ℕ)
      → stands_at r.table.code (ranks_read (reading r buf)) symbols i
      ≡ stands symbols (drop (start_at (lengths_of r buf) i) (row_upto r.table.code r.h buf))
  unfolding lengths_of
  stands_start symbols i = rw (sound_row s, drop_start r.table.code (ranks_read (reading r buf)) i)

module _ {r : Roll} {buf : List ℕ} (held : Held r buf) {p : List ℕ} (k : InTable (characters r.table) p) where
  pub hit_rank : (i : ℕ) → stands_at r.table.code (ranks_read (reading r buf)) (symbols_for r.table p) i ≡ stands p (drop i (text_of r buf))
  hit_rank i = rw (sound_ranked held) (hit_word r.table.code (sound_code held.sound) (characters r.table) k (sound_known held) i)

  -- the packed pattern stands at symbol q, which is the first or stands after a stopper, exactly if q is where a hit starts
  pub hit_symbols : (q : ℕ) → q < r.h → let row : List ℕ = row_upto r.table.code r.h buf in
      (T (stands (symbols_for r.table p) (drop q row)) × AfterStopper r.table.code.s row q)
      ↔ ((i : ℕ) × (i ∈ hits p (text_of r buf)) × (q ≡ start_at (lengths_of r buf) i))
  unfolding lengths_of
  hit_symbols q h =
      let c : Code = r.table.code in
      let rs : List ℕ = ranks_read (reading r buf) in
      let row : List ℕ = row_upto c r.h buf in
      let sy : List ℕ = symbols_for r.table p in
      let good : Good (base c) (stoppers c) = code_good c (sound_code held.sound) in
      let e : row ≡ write (base c) (stoppers c) rs = sound_row held.sound in
      let many : length rs ≡ length (text_of r buf) = ap length (sound_ranked held) ∙ length-map (text_of r buf) (rank_in (characters r.table)) in
      let there : (i : ℕ) → q ≡ start_at (lengths_of r buf) i → stands sy (drop q row) ≡ stands p (drop i (text_of r buf))
      = λ i f. ap (λ (n : ℕ). stands sy (drop n row)) f ∙ sym (stands_start held.sound sy i) ∙ hit_rank i in (
        (λ x.
            let (i, k, f) = after_starts (base c) (stoppers c) good c.s (one_number c) rs q (omega (arith, ap length e, sound_length held.sound)) (subst (λ (l : List ℕ). AfterStopper c.s l q) e x.1) in
            (i, (hit_is p (text_of r buf) i).1 (omega arith, subst T (there i (f ∙ start_at_lem c rs i)) x.0), f ∙ start_at_lem c rs i)),
        (λ x.
            let (i, m, f) = x in
            let (k, t) = (hit_is p (text_of r buf) i).0 m in (
              subst T (sym (there i f)) t,
              subst (AfterStopper c.s row) (sym f)
                  (subst (λ (l : List ℕ). AfterStopper c.s l (start_at (lengths_of r buf) i)) (sym e) (rw (← start_at_lem c rs i) (starts_after (base c) (stoppers c) good c.s (one_number c) rs i (omega arith)))),
            )),
      )
