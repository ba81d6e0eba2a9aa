-- `find::finding::search_sound` meets its contract: a pattern with a character that is not in the table has no hits, and one without has
-- them where its symbols stand.
use Rattle.std.proofs.Common.{sym, ap, ◌∙◌, ℕ, List, length, arith}
use Rattle.stopper.specs.Laws.Table.{table_few}
use Rattle.texts.specs.Paper.Hits.{listed}
use Rattle.texts.specs.Laws.Patterns.{pattern_most}
use Rattle.texts.specs.Laws.Finding.{listed_none}
use Rattle.sound.specs.Laws.Sound.{sound_code}
use Rattle.find.specs.Helpers.Finding.{word_hits}
use Rattle.find.specs.Laws.Finding.{no_hits, row_hits}
use Rattle.find.proofs.finding.search_sound.Goals as goal

pub overflow_cast-alphabet : goal.overflow_cast-alphabet
overflow_cast-alphabet c = omega (arith, table_few c.args.sound.now.roll.table c.args.sound.now.sound.table)

pub invariant_of-alphabet : goal.invariant_of-alphabet
invariant_of-alphabet c = record { good = sound_code c.args.sound.now.sound }

pub invariant_of-alphabet-2 : goal.invariant_of-alphabet-2
invariant_of-alphabet-2 c = record { few = table_few c.args.sound.now.roll.table c.args.sound.now.sound.table }

pub spell_pattern-requires : goal.spell_pattern-requires
spell_pattern-requires c = (pattern_most c.args.pattern.now c.requires, omega arith)

pub returns-in_default : goal.returns-in_default
returns-in_default c =
    let e = no_hits (record { sound = c.args.sound.now.sound; places = c.args.sound.now.places }) c.args.pattern.now c.in_default.ensures.known in
    record { total = sym (ap length e); list = sym (ap (λ (found : List ℕ). listed found c.args.slice.now) e ∙ listed_none c.args.slice.now) }

pub returns : goal.returns
returns c =
    let a = c.args in
    let e = ap (word_hits a.sound.now.roll a.sound.now.buf.now) c.in-Some.ensures.symbols ∙ row_hits (record { sound = c.args.sound.now.sound; places = c.args.sound.now.places }) a.pattern.now c.in-Some.ensures.known in
    record { total = c.list_hits.ensures.total ∙ ap length e; list = c.list_hits.ensures.list ∙ ap (λ (found : List ℕ). listed found c.args.slice.now) e }
