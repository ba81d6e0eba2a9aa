-- One symbol more behind a row in which no codeword was bad: one that ends a codeword, one that leaves it open, one behind which nothing ends well.
use Rattle.std.specs.Prelude.{◌≡◌, true, ℕ, ◌<◌}
use Rattle.std.proofs.Math.Path.{ap}
use Rattle.std.proofs.Common.{◌∙◌, arith}
use mathlib.Core.List.{List, [], ◌∷◌, ◌++◌, map, map-append, append-nil}
use Rattle.std.proofs.lemmas.Bool.{lt-leb}
use Rattle.std.proofs.Math.ListN.{get_or}
use Rattle.stopper.specs.Helpers.State.{stepped}
use Rattle.stopper.specs.declared.code.Code.{Code}
use Rattle.stopper.specs.declared.reading.Reader.{Reader}
use Rattle.stopper.specs.declared.reading.Step.{Step}
use Rattle.stopper.specs.declared.reading.Step.TheVariants.{Bad, Open}
use Rattle.judge.specs.Paper.Judge.{flag, progress, heard_as, ended_as, hears, ends, hears_all, ranks_heard}
use Rattle.judge.specs.Laws.Judge.{reader_is, hears_symbol, ends_symbol, hears_append, ranks_append, bad_silent, past_silent}
use Rattle.judge.specs.declared.records.Progress.{Progress}
use Rattle.stretches.specs.Helpers.Codewords.{characters_in, bad_at}

module _ (c : Code) (σ h : ℕ) where
  -- no codeword is bad before symbol h
  pub bad_not : (read first : ℕ) → read < h → bad_at h read first ≡ 0
  bad_not read first l = rw (lt-leb h read l)

  -- one symbol more, where none was bad
  module _ (read count first : ℕ) (r : Reader) (stained y : ℕ) (l : read < h) where
    abbrev here : Progress
    here = progress read count first r (bad_at h read first) stained

    one_heard : (s : Step) → stepped c σ r y ≡ s → hears c σ h here y ≡ heard_as h here s
    one_heard s e = hears_symbol c σ h here y (bad_not read first l) l ∙ ap (heard_as h here) (ap (λ (x : Reader). stepped c σ x y) (reader_is read count first r (bad_at h read first) stained) ∙ e)

    one_ended : (s : Step) → stepped c σ r y ≡ s → ends c σ h here y ≡ ended_as s
    one_ended s e = ends_symbol c σ h here y (bad_not read first l) l ∙ ap ended_as (ap (λ (x : Reader). stepped c σ x y) (reader_is read count first r (bad_at h read first) stained) ∙ e)

    -- behind a row of symbols
    module _ (q : Progress) (done : List ℕ) (e : hears_all c σ h q done ≡ here) (s : Step) (f : stepped c σ r y ≡ s) where
      pub heard_after : hears_all c σ h q (done ++ (y ∷ [])) ≡ heard_as h here s
      unfolding hears_all
      heard_after = hears_append c σ h q done (y ∷ []) ∙ ap (λ (p : Progress). hears c σ h p y) e ∙ one_heard s f

      pub told_after : (places : List ℕ) → characters_in c σ places h q (done ++ (y ∷ [])) ≡ characters_in c σ places h q done ++ map (λ rank. get_or places rank 0) (ended_as s)
      unfolding ranks_heard
      told_after places =
          ap (map (λ rank. get_or places rank 0))
          (ranks_append c σ h q done (y ∷ []) ∙ ap (λ (p : Progress). ranks_heard c σ h q done ++ ranks_heard c σ h p (y ∷ [])) e
          ∙ ap (λ (l : List ℕ). ranks_heard c σ h q done ++ l) (append-nil (ends c σ h here y) ∙ one_ended s f))
          ∙ map-append (λ rank. get_or places rank 0) (ranks_heard c σ h q done) (ended_as s)

    -- nothing ends well from here on: this symbol ends a bad codeword, or the codeword reaches σ with it
    pub bad_here : stepped c σ r y ≡ Bad → (w : List ℕ) → ranks_heard c σ h here (y ∷ w) ≡ []
    unfolding ranks_heard heard_as ended_as
    bad_here e w = rw (one_ended Bad e, one_heard Bad e) (bad_silent c σ h _ w (λ z. omega arith))

    pub past_here : {on : Reader} → stepped c σ r y ≡ Open on → on.past ≡ true → (w : List ℕ) → ranks_heard c σ h here (y ∷ w) ≡ []
    unfolding ranks_heard heard_as ended_as
    past_here {on} e p w = rw (one_ended (Open on) e, one_heard (Open on) e) (past_silent c σ h _ w (ap flag p))
