-- What is asked for a text in place of a run, and what it leaves.
use Rattle.std.specs.Prelude.{List, ℕ}
use Rattle.texts.specs.Paper.Edited.{edited}
use Rattle.sound.specs.Paper.Roll.{text_of}
use Rattle.sound.specs.declared.records.Roll.{Roll}
use Rattle.store.specs.Helpers.Replacing.{Replaces, replaced_bytes}
use Rattle.store.specs.declared.replacement.Replacement.{Replacement}

abbrev pub ReplacesBy : ℕ → Replacement → List ℕ → ℕ → Type 0
ReplacesBy k n buf h = Replaces k n.words.now.lengths n.words.now.symbols n.text.now n.taken buf h n.run

abbrev pub replaced_by : ℕ → Replacement → List ℕ → ℕ → List ℕ
replaced_by k n buf h = replaced_bytes k n.words.now.lengths n.words.now.symbols n.text.now buf h n.run

-- the text of a roll with it
abbrev pub text_with : Roll → List ℕ → Replacement → List ℕ
text_with r buf n = edited (text_of r buf) n.run.start n.run.end n.text.now
