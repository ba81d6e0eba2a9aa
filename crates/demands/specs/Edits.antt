-- What an accepted edit leaves, by the operations.
use Rattle.std.specs.Prelude.{◌≡◌, refl, List, ◌++◌, ℕ, ◌≤◌, T, length, take, drop, Result, Ok}
use Rattle.std.proofs.Common.{sym, ap, subst, ◌∙◌}
use Rattle.ground.specs.Paper.Refusals.{accepted}
use Rattle.ground.specs.Paper.Answers.{outcome_of}
use Rattle.ground.specs.Laws.Answers.{says_as, says_one, accepted_ok}
use Rattle.ground.specs.Laws.Refusals.{Accepted, accepted_leaves}
use Rattle.ground.specs.declared.refusal.Refusal.{Refusal}
use Rattle.symbols.specs.Paper.Symbols.{bytes_for, room}
use Rattle.texts.specs.Paper.Directory.{entries, directory_of}
use Rattle.texts.specs.Paper.Hits.{hits, good_pattern, listed}
use Rattle.sound.specs.Paper.Roll.{symbols_for, text_of}
use Rattle.sound.specs.Paper.Lengths.{lengths_of, lengths_for, Right}
use Rattle.sound.specs.Laws.Lengths.{sound_lengths}
use Rattle.sound.specs.declared.records.Roll.{Roll}
use Rattle.store.specs.Paper.Stored.{packed_into, bytes_after, directory_after}
use Rattle.store.specs.Laws.Edited.{Edits, text_after, roll_after, edit_known, edit_holds, edit_sound, edit_held, edit_text, edit_right}
use Rattle.roll.specs.Paper.Operations.{pack_says, pack_roll, Packing, Making, Unpacking, Searching, Editing}
use Rattle.roll.specs.Laws.Accepting.{Packs, packs_accepted, edits_accepted, accepted_edits}
use Rattle.demands.specs.Meaning.{packed_holds, packing_sound, unpacks_text}
use Rattle.roll.specs.Laws.Operations.{make_yes, search_yes}
use Rattle.roll.specs.declared.edit.Edited.{Edited}
use Rattle.demands.specs.Made.{made_right}

-- an edit that can be made is accepted
pub edits_yes : {r : Roll} {buf dir : List ℕ} {start end : ℕ} {text : List ℕ} {e : Edited} {after dir_after : List ℕ}
    → Editing r buf dir start end text e after dir_after → Edits r buf dir start end text → e.answer ≡ Ok tt
edits_yes {r} {buf} {dir} {start} {end} {text} {e} p u = says_one e.answer (Ok tt) (p.says ∙ edits_accepted r buf dir start end text u)

-- an edit that is accepted leaves the edited text's record, bytes and directory
pub editing_yes : {r : Roll} {buf dir : List ℕ} {start end : ℕ} {text : List ℕ} {e : Edited} {after dir_after : List ℕ}
    → Editing r buf dir start end text e after dir_after → e.answer ≡ Ok tt
    → Edits r buf dir start end text
    × (e.roll ≡ roll_after r buf start end text)
    × (after ≡ bytes_after r (text_after r buf start end text) buf)
    × (dir_after ≡ directory_after r (text_after r buf start end text) dir)
editing_yes {r} {buf} {dir} {start} {end} {text} p y =
    let e = says_as p.says y in
    (accepted_edits r buf dir start end text e, p.roll ∙ accepted_leaves e _ _, p.leaves ∙ accepted_leaves e _ _, p.directory ∙ accepted_leaves e _ _)

module _ {r : Roll} {buf dir : List ℕ} {start end : ℕ} {text : List ℕ} (long : length r.table.places ≡ 256) (u : Edits r buf dir start end text) where
  abbrev E : List ℕ
  E = text_after r buf start end text

  abbrev q : Roll
  q = roll_after r buf start end text

  abbrev k : ℕ
  k = r.table.code.k

  abbrev after : List ℕ
  after = bytes_after r E buf

  -- packed afresh, into any buffer with room, it has the same bytes
  pub edit_afresh : (other : List ℕ) → length (symbols_for r.table E) ≤ room k (length other)
      → Accepted (pack_says r.table E other) × (take (bytes_for k q.h) after ≡ take (bytes_for k q.h) (packed_into k (symbols_for r.table E) other))
  edit_afresh other h =
      let p : Packs r.table E other = record { good = u.sound.table; known = edit_known long u; fits = h } in
      (packs_accepted r.table E other p, sym (edit_holds long u).bytes ∙ (packed_holds r.table E other p).bytes)

  -- by the operations: pack it afresh into any buffer with room and make its directory; record, bytes and entries are the edit's
  module _ (other space : List ℕ) (room_there : length (symbols_for r.table E) ≤ room k (length other)) (entries_there : entries q.n ≤ length space) where
    pub edit_as_packed : {p : Result Roll Refusal} {bytes : List ℕ} → Packing r.table E other p bytes → {made : Result (Unit {0}) Refusal} {list : List ℕ}
        → ((given : Roll) → p ≡ Ok given → Making given bytes space made list)
        → (p ≡ Ok q)
        × (take (bytes_for k q.h) bytes ≡ take (bytes_for k q.h) after)
        × (made ≡ Ok tt)
        × (take (entries q.n) list ≡ take (entries q.n) (directory_after r E dir))
    edit_as_packed {p} {bytes} a {made} {list} makes =
        let (accept, first) = edit_afresh other room_there in
        let given : pack_roll r.table E other ≡ q = accepted_leaves accept _ _ in
        let y : p ≡ Ok q = accepted_ok (pack_roll r.table E other) a.says accept ∙ ap Ok given in
        let b = makes q y in
        let (same, sound, text_is) = packing_sound (subst (λ (x : Result Roll Refusal). Packing r.table E other x bytes) y a) in
        let bytes_are : bytes ≡ packed_into k (symbols_for r.table E) other = a.leaves ∙ accepted_leaves accept _ _ in
        let making : Making q bytes space (Ok tt) (directory_of (lengths_of q bytes) ++ drop (entries q.n) space) = make_yes sound entries_there refl in
        let m : made ≡ Ok tt = says_one made (Ok tt) (b.says ∙ sym making.says) in
        let right : Right q bytes list = made_right (subst (λ (x : Result (Unit {0}) Refusal). Making q bytes space x list) m b) in
        let there : lengths_of q bytes ≡ lengths_for r.table E
        = sound_lengths (record { sound = sound; places = long }) ∙ ap (lengths_for r.table) text_is in
        let here : lengths_of q after ≡ lengths_for r.table E
        = sound_lengths (edit_held long u) ∙ ap (lengths_for r.table) (edit_text long u) in (
          y,
          ap (take (bytes_for k q.h)) bytes_are ∙ sym first,
          m,
          right ∙ ap directory_of (there ∙ sym here) ∙ sym (edit_right long u),
        )

  -- unpacking gives the edited text, and searching its hits
  pub edit_unpacks : (out : List ℕ) → q.n ≤ length out → {answer : Result (Unit {0}) Refusal} {now : List ℕ} → Unpacking q after 0 q.n out answer now
      → (answer ≡ Ok tt) × (now ≡ E ++ drop q.n out)
  edit_unpacks out h p =
      let x = unpacks_text out (edit_sound long u) h p in
      (x.0, x.1 ∙ ap (λ (l : List ℕ). l ++ drop q.n out) (edit_text long u))

  pub edit_searches : (pattern slice : List ℕ) → T (good_pattern pattern) → {answer : Result ℕ Refusal} {now : List ℕ} → Searching q after pattern slice answer now
      → (outcome_of answer ≡ accepted (length (hits pattern E))) × (now ≡ listed (hits pattern E) slice)
  edit_searches pattern slice g p =
      let same : hits pattern E ≡ hits pattern (text_of q after) = ap (hits pattern) (sym (edit_text long u)) in
      let yes : Searching q after pattern slice (Ok (length (hits pattern E))) (listed (hits pattern E) slice)
      = search_yes (edit_sound long u) g (ap length same) (ap (λ (l : List ℕ). listed l slice) same) in
      (p.says ∙ sym yes.says, p.leaves ∙ sym yes.leaves)
