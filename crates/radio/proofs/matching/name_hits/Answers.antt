-- `radio::matching::name_hits` meets its contract: the hits are those whose last characters are before place i.
use Rattle.std.proofs.Common.{◌≡◌, List, [], ◌∷◌, ◌++◌, ℕ, suc, ◌+◌, ◌-◌, ◌*◌, ◌^◌, ◌≤◌, ◌<◌, length, take, get_or, set, refl, sym, ap, ap₂, ◌∙◌, arith, add-zero, le-leb, length-append, append-nil, pow_mono}
use Rattle.std.proofs.lemmas.Bool.{lt-leb}
use Rattle.std.specs.Int.Bits.{bit_and}
use Rattle.ground.specs.Laws.Runs.{over_none, over_more}
use Rattle.radio.specs.Paper.Matching.{advanced, whole_bit, matches, matches_all, named}
use Rattle.radio.specs.Helpers.Masks.{masks_of}
use Rattle.radio.specs.Helpers.Naming.{NamedIn}
use Rattle.radio.specs.Laws.Matching.{grown_count, matches_low, hit_fits, hit_none, hit_rest, named_hit, named_none, matches_next, named_next}
use Rattle.radio.specs.Laws.Following.{advanced_is}
use Rattle.radio.proofs.matching.name_hits.Goals as goal
use Rattle.radio.proofs.matching.name_hits.Goals.{then-whole-on, else-whole-on}

-- ---- one character more

named_start : (pattern : List ℕ) (count bits : ℕ) (slice : List ℕ) (hits : ℕ) → NamedIn pattern [] count bits slice hits (record { ends = bits; hits = hits }) slice
unfolding matches_all named
named_start pattern count bits slice hits = record { ends = refl; hits = sym (add-zero hits); leaves = sym (over_none slice hits) }

module _ (pattern text : List ℕ) {count bits : ℕ} {slice : List ℕ} {hits on at i : ℕ} {after : List ℕ}
    (z : NamedIn pattern (take i text) count bits slice hits (record { ends = on; hits = at }) after) (inside : i < length text) where
  abbrev character : ℕ
  character = get_or text i 0

  abbrev all : ℕ
  all = advanced pattern on character

  abbrev before : List ℕ
  before = named pattern bits count (take i text)

  ends_is : matches_all pattern bits (take (i + 1) text) ≡ matches pattern on character
  ends_is = matches_next pattern bits text i inside ∙ ap (λ (e : ℕ). matches pattern e character) (sym z.ends)

  named_is : named pattern bits count (take (i + 1) text) ≡ before ++ named pattern on (count + i) (character ∷ [])
  named_is = named_next pattern bits text i inside count ∙ ap (λ (e : ℕ). before ++ named pattern e (count + i) (character ∷ [])) (sym z.ends)

  more_none : {r : ℕ} → r ≡ all → all < whole_bit pattern → NamedIn pattern (take (i + 1) text) count bits slice hits (record { ends = r; hits = at }) after
  more_none e q =
      let same : named pattern bits count (take (i + 1) text) ≡ before
      = named_is ∙ ap (λ (l : List ℕ). before ++ l) (named_none pattern on (count + i) character (lt-leb _ _ q)) ∙ append-nil _ in
      record { ends = e ∙ hit_none pattern on character q ∙ sym ends_is; hits = rw same z.hits; leaves = rw same z.leaves }

  more_hit : {r whole hit : ℕ} → r ≡ all → whole ≡ whole_bit pattern → 0 < length pattern → hit ≡ suc (count + i) - length pattern → at < length slice → whole_bit pattern ≤ all
      → NamedIn pattern (take (i + 1) text) count bits slice hits (record { ends = r - whole; hits = at + 1 }) (set after at hit)
  more_hit {hit = hit} e bit some one room q =
      let same : named pattern bits count (take (i + 1) text) ≡ before ++ (hit ∷ [])
      = named_is ∙ ap (λ (l : List ℕ). before ++ l) (named_hit pattern on (count + i) character (le-leb _ _ q) ∙ ap (λ (m : ℕ). m ∷ []) (sym one)) in
      record {
        ends = ap₂ (λ (m n : ℕ). m - n) e bit ∙ hit_rest pattern on character some q ∙ sym ends_is;
        hits = rw same (rw length-append (omega (arith, z.hits)));
        leaves = rw (same, z.leaves) (over_more slice hits before at hit (sym z.hits) room);
      }

-- ---- what the advance gives

module _ {masks : List ℕ} {whole : ℕ} (pattern : List ℕ) (some : 0 < length pattern) (places : masks ≡ masks_of pattern) (bit : whole ≡ whole_bit pattern) (on character : ℕ) {b r : ℕ} (small : b < 256) (is : b ≡ character)
    (given : r ≡ bit_and (2 * on + 1) (get_or masks b 0)) where
  advance_is : r ≡ advanced pattern on character
  advance_is = given ∙ advanced_is pattern masks on b places small ∙ ap (advanced pattern on) is

  -- a hit, or none
  hit : whole ≤ r → whole_bit pattern ≤ advanced pattern on character
  hit h = omega (arith, advance_is, bit)

  none : r < whole → advanced pattern on character < whole_bit pattern
  none h = omega (arith, advance_is, bit)

  rest_low : whole ≤ r → r - whole < whole
  rest_low h = omega (arith, advance_is, bit, hit_rest pattern on character some (hit h), matches_low pattern on character)

  grown : (n : ℕ) {m : ℕ} → on < 2 ^ n → m ≡ suc n → r < 2 ^ m
  grown n h e = rw e (omega (arith, advance_is, grown_count pattern on character n h))

  fits : (n : ℕ) → on < 2 ^ n → whole ≤ r → length pattern ≤ suc n
  fits n h q = omega (arith, hit_fits pattern on character n h (hit q))

-- ---- the loop

pub loop-i-init : goal.loop-i-init
loop-i-init c =
    let a = c.args in
    (c.requires.low, rw add-zero c.requires.ended, omega arith, named_start a.matcher.now.pattern.now a.count a.before.ends a.slice.now a.before.hits)

pub advance-on-requires : goal.advance-on-requires
advance-on-requires c =
    let m = c.args.matcher.now in
    let most : length m.pattern.now - 1 ≤ 63 = omega (arith, m.most) in
    omega (arith, c.loop-i.invariant.0, m.bit, pow_mono {j = 63} most)

pub overflow_cast-length : goal.overflow_cast-length
overflow_cast-length c =
    let m = c.args.matcher.now in omega (arith, m.most)

pub overflow_sub-slice : goal.overflow_sub-slice
overflow_sub-slice c =
    let m = c.args.matcher.now in
    omega (arith, m.most, fits m.pattern.now m.some m.places m.bit c.loop-i.on _ (omega arith) c.from.ensures c.advance-on.ensures (c.args.count + c.loop-i.i) c.loop-i.invariant.1 c.if-whole-on.true)

pub loop-i-preserved : goal.loop-i-preserved
loop-i-preserved c =
    let a = c.args in
    let m = a.matcher.now in
    let pattern : List ℕ = m.pattern.now in
    let (low, count, few, named) = c.loop-i.invariant in
    let small : c.from.result < 256 = omega arith in
    let more : c.advance-on.result < 2 ^ (a.count + (c.loop-i.i + 1)) = grown pattern m.some m.places m.bit c.loop-i.on _ small c.from.ensures c.advance-on.ensures (a.count + c.loop-i.i) count (omega arith) in
    let place : c.loop-i.at < length a.slice.now = omega (arith, c.requires.room) in
    let is = advance_is pattern m.some m.places m.bit c.loop-i.on _ small c.from.ensures c.advance-on.ensures in
    elim c.if-whole-on.branch [
      | then-whole-on w ↦
          let h : m.whole ≤ c.advance-on.result = w.if-whole-on.true in
          rw (w.on-is, w.at-is, w.slice-is) (
            rest_low pattern m.some m.places m.bit c.loop-i.on _ small c.from.ensures c.advance-on.ensures h,
            omega arith,
            omega arith,
            more_hit pattern a.text.now named c.loop-i-test.true is m.bit m.some (omega (arith, m.most)) place
                (hit pattern m.some m.places m.bit c.loop-i.on _ small c.from.ensures c.advance-on.ensures h),
          )
      | else-whole-on w ↦
          let h : c.advance-on.result < m.whole = w.if-whole-on.false in
          rw (w.on-is, w.at-is, w.slice-is) (
            h,
            more,
            omega arith,
            more_none pattern a.text.now named c.loop-i-test.true is (none pattern m.some m.places m.bit c.loop-i.on _ small c.from.ensures c.advance-on.ensures h),
          )
    ]
