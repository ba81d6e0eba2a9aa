-- The codewords of a text's first characters gathered: what is known before character i.
use Rattle.std.proofs.Common.{◌≡◌, refl, sym, ap, ap₂, ◌∙◌, ℕ, ◌+◌, ◌*◌, ◌^◌, ◌≤◌, ◌<◌, List, ◌++◌, append-nil, append_assoc, length, take, drop, get_or, length-append, drop-drop, add-one, arith}
use lib.Seq.{take_all}
use Rattle.ground.specs.Helpers.Moved.{laid_from}
use Rattle.symbols.specs.Paper.Symbols.{per, symbols_of}
use Rattle.symbols.specs.Helpers.Gathered.{gathered, up_to, Waiting, Added}
use Rattle.symbols.specs.Laws.Gathered.{added_past}
use Rattle.symbols.specs.Laws.Rows.{symbols_even}
use Rattle.symbols.specs.declared.gather.Gather.{Gather}
use Rattle.store.specs.Helpers.Words.{word_at, row_of, Laid}
use Rattle.store.specs.Laws.Words.{row_more, row_split}

-- nothing behind the gathered symbols has changed
pub record Written (k : ℕ) (lengths words text old : List ℕ) (first : ℕ) (buf : List ℕ) (g : Gather) (i : ℕ) : Type 0 where
  pub even : length buf ≡ length old
  pub few : g.count < 4 * per k
  pub small : g.bits < 2 ^ (k * g.count)
  pub upto : up_to k g ≡ first + length (row_of lengths words (take i text))
  pub symbols : gathered k g buf ≡ take first (symbols_of k old) ++ row_of lengths words (take i text)
  pub rest : drop (up_to k g) (symbols_of k buf) ≡ drop (up_to k g) (symbols_of k old)

module _ {k : ℕ} {lengths words text old : List ℕ} {first : ℕ} (a : Laid k lengths words text old first) where
  pub start : {g : Gather} → g.count < 4 * per k → g.bits < 2 ^ (k * g.count) → up_to k g ≡ first
      → gathered k g old ≡ take first (symbols_of k old) → Written k lengths words text old first old g 0
  unfolding row_of
  start few small upto symbols = record {
    even = refl;
    few = few;
    small = small;
    upto = omega (arith, upto);
    symbols = symbols ∙ sym (append-nil (take first (symbols_of k old)));
    rest = refl;
  }

  module _ {buf : List ℕ} {g : Gather} {i : ℕ} (s : Written k lengths words text old first buf g i) where
    pub waits : {n : ℕ} → up_to k g + n ≤ first + length (row_of lengths words text) → Waiting k g buf n
    waits h = record {
      few = s.few;
      small = s.small;
      within = omega (arith, a.fits, symbols_even k buf old s.even);
      counts = omega (arith, a.counts);
    }

    module _ (h : i < length text) where
      abbrev b : ℕ
      b = get_or text i 0

      pub ends : up_to k g + length (word_at lengths words b) ≤ first + length (row_of lengths words text)
      ends = omega (arith, s.upto, simp length-append at (ap length (row_split lengths words text i h)))

      pub more : {after : List ℕ} {r : Gather} → length after ≡ length buf → Added k g buf (word_at lengths words b) r after
          → Written k lengths words text old first after r (i + 1)
      more {after} {r} even d =
          let w = word_at lengths words b in
          let m : row_of lengths words (take (i + 1) text) ≡ row_of lengths words (take i text) ++ w = rw (add-one i) (row_more lengths words text i h) in
          let past : drop (up_to k r) (symbols_of k buf) ≡ drop (up_to k r) (symbols_of k old)
          = rw d.upto
          (sym (drop-drop (length w) (up_to k g) (symbols_of k buf)) ∙ ap (drop (length w)) s.rest ∙ drop-drop (length w) (up_to k g) (symbols_of k old)) in
          record {
            even = even ∙ s.even;
            few = d.few;
            small = d.small;
            upto = omega (arith, d.upto, s.upto, simp length-append at (ap length m));
            symbols =
                d.symbols
                ∙ ap (λ (l : List ℕ). l ++ w) s.symbols
                ∙ append_assoc (take first (symbols_of k old)) (row_of lengths words (take i text)) w
                ∙ ap (λ (l : List ℕ). take first (symbols_of k old) ++ l) (sym m);
            rest = added_past a.laid.width d ∙ past;
          }

    module _ (h : length text ≤ i) where
      pub all_upto : up_to k g ≡ first + length (row_of lengths words text)
      all_upto = rw (take_all i text h) at s.upto

      pub all : gathered k g buf ++ drop (up_to k g) (symbols_of k buf) ≡ laid_from (symbols_of k old) first (row_of lengths words text)
      all =
          ap₂ ◌++◌ s.symbols s.rest
          ∙ rw (take_all i text h, all_upto) (append_assoc (take first (symbols_of k old)) (row_of lengths words text) _)
