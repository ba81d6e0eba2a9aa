-- `jump::jumping::jump_sound` meets its contract.
use Rattle.std.proofs.Common.{◌≡◌, List, ℕ, length, take, sym, ap, ◌∙◌, arith}
use Rattle.ground.specs.Laws.Limit.{limit_fits}
use Rattle.stopper.specs.Paper.Table.{characters}
use Rattle.stopper.specs.Laws.Table.{table_few, code_width}
use Rattle.symbols.specs.Laws.Sizes.{room_limit}
use Rattle.symbols.specs.Laws.Rows.{room_row}
use Rattle.texts.specs.Paper.Characters.{first_foreign}
use Rattle.texts.specs.Paper.Hits.{hits, listed}
use Rattle.texts.specs.Laws.Patterns.{pattern_most}
use Rattle.texts.specs.Laws.Finding.{listed_none}
use Rattle.sound.specs.Paper.Roll.{symbols_for, text_of}
use Rattle.sound.specs.declared.records.Roll.{Roll}
use Rattle.sound.specs.declared.records.SoundRoll.{SoundRoll}
use Rattle.sound.specs.Helpers.Held.{Held}
use Rattle.sound.specs.Laws.Sound.{sound_code}
use Rattle.sound.specs.Laws.Texts.{text_below}
use Rattle.find.specs.Helpers.Finding.{word_hits, pattern_row}
use Rattle.find.specs.Laws.Finding.{pattern_known, no_hits, row_hits}
use Rattle.jump.specs.Laws.Hits.{all_number, all_hits}
use Rattle.jump.proofs.jumping.jump_sound.Goals as goal

-- as many symbols as are spelled are in the row
row_room : {long : ℕ} {found : List ℕ} (row : List ℕ) → long ≡ length found → take long row ≡ found → long ≡ length (take long row)
row_room row e f = e ∙ sym (ap length f)

-- the codewords at whose start they stand are the hits
hits_are : {roll : Roll} {buf : List ℕ} → Held roll buf → (pattern : List ℕ) {symbols : List ℕ} → first_foreign (characters roll.table) pattern ≡ length pattern
    → symbols ≡ pattern_row roll.table.code (characters roll.table) pattern → word_hits roll buf symbols ≡ hits pattern (text_of roll buf)
hits_are {roll} {buf} held pattern known is = ap (word_hits roll buf) is ∙ row_hits held pattern known

held : (s : SoundRoll) → Held s.roll s.buf.now
held s = record { sound = s.sound; places = s.places }

pub overflow_cast-alphabet : goal.overflow_cast-alphabet
overflow_cast-alphabet c = let s = c.args.sound.now in omega (arith, table_few s.roll.table s.sound.table)

pub invariant_of-good : goal.invariant_of-good
invariant_of-good c = record { good = sound_code c.args.sound.now.sound }

pub invariant_of-alphabet : goal.invariant_of-alphabet
invariant_of-alphabet c = let s = c.args.sound.now in record { few = table_few s.roll.table s.sound.table }

pub spell_pattern-requires : goal.spell_pattern-requires
spell_pattern-requires c = (pattern_most c.args.pattern.now c.requires, omega arith)

pub returns-in_default : goal.returns-in_default
returns-in_default c =
    let a = c.args in
    let e = no_hits (held a.sound.now) a.pattern.now c.in_default.ensures.known in
    record { total = sym (ap length e); list = sym (ap (λ (found : List ℕ). listed found a.slice.now) e ∙ listed_none a.slice.now) }

pub per_byte-requires : goal.per_byte-requires
per_byte-requires c = let s = c.args.sound.now in code_width s.roll.table.code (sound_code s.sound)

pub slice_bounds-symbols-end : goal.slice_bounds-symbols-end
slice_bounds-symbols-end c =
    let e = c.in-Some.ensures in row_room c.spell_pattern.new.symbols e.length e.symbols

pub returns-then-long-per_byte : goal.returns-then-long-per_byte
returns-then-long-per_byte c =
    let a = c.args in
    let h = hits_are (held a.sound.now) a.pattern.now c.in-Some.ensures.known c.in-Some.ensures.symbols in
    record { total = c.list_hits.ensures.total ∙ ap length h; list = c.list_hits.ensures.list ∙ ap (λ (found : List ℕ). listed found a.slice.now) h }

pub invariant_of-searched : goal.invariant_of-searched
invariant_of-searched c =
    let s = c.args.sound.now in
    let k : ℕ = s.roll.table.code.k in
    record {
      known = c.stops_by_byte-stops.ensures;
      bytes = c.args.sound.now.bytes;
      inside = room_row k s.buf.now s.roll.h s.sound.fits;
      few = omega (arith, s.sound.fits, room_limit k (length s.buf.now), limit_fits);
      number = sym (all_number s.sound);
    }

pub jump-requires : goal.jump-requires
jump-requires c =
    let s = c.args.sound.now in
    let pattern = c.args.pattern.now in
    let t = s.roll.table in
    let e = c.in-Some.ensures in
    let row : take c.in-Some.long c.spell_pattern.new.symbols ≡ symbols_for t pattern = e.symbols ∙ pattern_known t.code (characters t) pattern e.known in (
      omega (arith, c.if-long-per_byte.false, c.per_byte.ensures, row_room c.spell_pattern.new.symbols e.length e.symbols),
      rw row (text_below t.code (sound_code s.sound) (characters t) pattern),
    )

pub returns : goal.returns
returns c =
    let a = c.args in
    let h = all_hits a.sound.now.sound _ ∙ hits_are (held a.sound.now) a.pattern.now c.in-Some.ensures.known c.in-Some.ensures.symbols in
    record { total = c.jump.ensures.total ∙ ap length h; list = c.jump.ensures.list ∙ ap (λ (found : List ℕ). listed found a.slice.now) h }
