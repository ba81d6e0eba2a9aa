-- A run that may be replaced: what its helpers ask, and that together they leave the edited text with its directory.
use Rattle.std.specs.Prelude.{◌≡◌, refl, ◌⊎◌, Bool, true, false, cond, ◌&&◌, T, eqb, drop}
use Rattle.std.proofs.Math.Path.{sym, ap, ap₂}
use Rattle.std.proofs.Common.{◌∙◌, inl, inr, ⊎_elim, arith, length-append, length-take-le}
use mathlib.Core.List.{List, ◌++◌, map, append_assoc}
use Prim.Native.Nat.{ℕ, ◌+◌, ◌-◌, ◌≤◌}
use Rattle.std.proofs.Math.Facts.{eqb_yes}
use Rattle.std.proofs.Math.ListN.{length, take}
use Rattle.std.proofs.Math.Seq.{take_at, drop_at}
use Rattle.ground.specs.Helpers.Bound.{limit_bound}
use Rattle.ground.specs.Paper.Rows.{zeros}
use Rattle.ground.specs.Paper.Runs.{over, run, in_place}
use Rattle.ground.specs.Laws.Limit.{limit_fits}
use Rattle.ground.specs.Laws.Rows.{map_drop}
use Rattle.stopper.specs.Paper.Table.{characters, rank_in, length_of}
use Rattle.stopper.specs.declared.code.Code.{Code}
use Rattle.symbols.specs.Paper.Symbols.{bytes_for, bytes_of}
use Rattle.symbols.specs.Laws.Sizes.{room_limit}
use Rattle.symbols.specs.Laws.Rows.{room_row}
use Rattle.texts.specs.Paper.Directory.{entries, sum, start_at, directory_of}
use Rattle.texts.specs.Laws.Characters.{foreign_known}
use Rattle.texts.specs.Laws.Directory.{entries_upto}
use Rattle.texts.specs.Laws.Mended.{mended, mended_even, mended_cleared}
use Rattle.sound.specs.Paper.Roll.{symbols_for, text_row, text_of, Sound}
use Rattle.sound.specs.Paper.Lengths.{lengths_of, lengths_for}
use Rattle.sound.specs.Helpers.Held.{Held}
use Rattle.sound.specs.Laws.Sound.{sound_code}
use Rattle.sound.specs.Laws.Texts.{length_parts}
use Rattle.sound.specs.Laws.Holding.{sound_symbols}
use Rattle.sound.specs.Laws.Lengths.{lengths_length, sound_lengths, start_text}
use Rattle.sound.specs.declared.records.Roll.{Roll}
use Rattle.store.specs.Paper.Stored.{bytes_after, directory_after}
use Rattle.store.specs.Helpers.Words.{row_of}
use Rattle.store.specs.Helpers.Replacing.{replaced_row, replaced_bytes, Replaces, changed_upto, Located, Replaceable}
use Rattle.store.specs.Laws.Words.{row_count}
use Rattle.store.specs.Laws.Located.{first_is, last_is, size, within, run_ordered, tail, run_inside, count_after}
use Rattle.store.specs.Laws.Editing.{edited_row, edited_lengths}
use Rattle.store.specs.Laws.Edited.{Edits, text_after, roll_after, edit_held, edit_text}
use Rattle.store.specs.declared.replace.Run.{Run}

-- up to which character entries change: to the end, or to the run's end
changed_is : (x : Run) (long taken count : ℕ)
    → (changed_upto x long taken count ≡ count) ⊎ ((changed_upto x long taken count ≡ x.end) × (long ≡ x.end - x.start) × (taken ≡ x.last - x.first))
unfolding changed_upto
changed_is x long taken count = go (eqb long (x.end - x.start)) (eqb taken (x.last - x.first)) eqb_yes eqb_yes
  where
    go : (a b : Bool) → (T a → long ≡ x.end - x.start) → (T b → taken ≡ x.last - x.first)
        → (cond (a && b) x.end count ≡ count) ⊎ ((cond (a && b) x.end count ≡ x.end) × (long ≡ x.end - x.start) × (taken ≡ x.last - x.first))
    go true true f g = inr (refl, f tt, g tt)
    go true false f g = inl refl
    go false b f g = inl refl

module _ {r : Roll} {lengths words buf dir : List ℕ} {x : Run} {text : List ℕ} {taken : ℕ} (p : Replaceable r lengths words buf dir x text taken) where
  abbrev c : Code
  c = r.table.code

  abbrev l : List ℕ
  l = characters r.table

  abbrev old : List ℕ
  old = text_of r buf

  abbrev E : List ℕ
  E = text_after r buf x.start x.end text

  abbrev at : Located r buf dir x
  at = p.located

  -- ---- how much there is afterwards

  pub symbols_after : length (symbols_for r.table E) ≡ x.first + taken + (r.h - x.last)
  symbols_after =
      let parts = length_parts c l (take x.start old) (text ++ drop x.end old) in
      omega (arith, parts, length_parts c l text (drop x.end old), tail at, first_is at, last_is at, p.spelled.count)

  -- no number is great
  pub symbols_few : x.first + taken + (r.h - x.last) ≤ limit_bound
  symbols_few = omega (arith, p.fits, room_limit c.k (length buf), limit_fits)

  pub count_few : x.start + length text + (r.n - x.end) ≤ limit_bound
  count_few = omega (arith, count_after at text, symbols_after, symbols_few, row_count c (sound_code at.held.sound) l E)

  pub roll_after_lem : {n h : ℕ} → n ≡ x.start + length text + (r.n - x.end) → h ≡ x.first + taken + (r.h - x.last)
      → record { table = r.table; n = n; h = h } ≡ roll_after r buf x.start x.end text
  roll_after_lem e f = ap₂ {C = Roll} (λ (n h : ℕ). record { table = r.table; n = n; h = h }) (e ∙ sym (count_after at text)) (f ∙ sym symbols_after)

  pub edits : Edits r buf dir x.start x.end text
  edits =
      record {
        sound = at.held.sound;
        right = at.right;
        ordered = at.ordered;
        inside = at.inside;
        known = foreign_known l text p.spelled.known;
        fits = omega (arith, symbols_after, p.fits);
        listed = rw (count_after at text) p.listed;
      }

  -- ---- the symbols

  count : taken ≡ length (row_of lengths words text)
  count = p.spelled.count ∙ ap length (sym p.spelled.row)

  pub replaces : Replaces c.k lengths words text taken buf r.h x
  replaces =
      record {
        laid = record {
          laid = p.spelled.laid;
          fits = omega (arith, count, room_row c.k buf (x.first + taken + (r.h - x.last)) p.fits);
          counts = omega (arith, count, symbols_few);
        };
        count = count;
        ordered = run_ordered at;
        inside = run_inside at;
        held = room_row c.k buf r.h at.held.sound.fits;
        fits = room_row c.k buf (x.first + taken + (r.h - x.last)) p.fits;
        small = omega (arith, at.held.sound.fits, room_limit c.k (length buf), limit_fits);
        few = symbols_few;
        clean = at.held.sound.unused;
      }

  pub bytes_after_lem : {after : List ℕ} → after ≡ replaced_bytes c.k lengths words text buf r.h x → after ≡ bytes_after r E buf
  unfolding replaced_row
  bytes_after_lem e =
      e
      ∙ ap (λ (row : List ℕ). in_place (bytes_for c.k r.h) (bytes_of c.k row) buf)
      (ap₂ (λ (row new : List ℕ). over row x.first new x.last) (sym (sound_symbols at.held)) p.spelled.row
      ∙ ap₂ (λ (a b : ℕ). over (text_row c l old) a (text_row c l text) b) (first_is at) (last_is at)
      ∙ sym (edited_row old x.start x.end text c l))

  -- ---- the directory

  abbrev L : List ℕ
  L = lengths_for r.table old

  abbrev L' : List ℕ
  L' = lengths_for r.table E

  abbrev q : Roll
  q = roll_after r buf x.start x.end text

  abbrev after : List ℕ
  after = bytes_after r E buf

  held_after : Held q after
  held_after = edit_held at.held.places edits

  text_after_lem : text_of q after ≡ E
  text_after_lem = edit_text at.held.places edits

  lengths_after : lengths_of q after ≡ L'
  lengths_after = sound_lengths held_after ∙ ap (lengths_for r.table) text_after_lem

  L_length : length L ≡ r.n
  L_length = lengths_length r.table old ∙ size at

  L'_length : length L' ≡ x.start + length text + (r.n - x.end)
  L'_length = lengths_length r.table E ∙ count_after at text

  -- the characters before the run are the same, and those behind it
  front_same : take x.start E ≡ take x.start old
  front_same = take_at (take x.start old) (text ++ drop x.end old) x.start (length-take-le x.start old (omega (arith, within at, at.ordered)))

  L_front : take x.start L ≡ take x.start L'
  L_front =
      sym (ap (take x.start) (edited_lengths old x.start x.end text r.table)
      ∙ take_at (take x.start L) _ x.start (length-take-le x.start L (omega (arith, L_length, at.ordered, at.inside))))

  start_after : (j : ℕ) → start_at (lengths_of q after) j ≡ length (symbols_for r.table (take j E))
  start_after j = start_text held_after j ∙ ap (λ (t : List ℕ). length (symbols_for r.table (take j t))) text_after_lem

  first_after : x.first ≡ start_at (lengths_of q after) x.start
  first_after = first_is at ∙ sym (start_after x.start ∙ ap (λ (t : List ℕ). length (symbols_for r.table t)) front_same)

  right_before_lem : take (entries (length L)) dir ≡ directory_of L
  right_before_lem = ap (λ (n : ℕ). take (entries n) dir) L_length ∙ at.right ∙ ap directory_of (sound_lengths at.held)

  -- the entries are written anew from the run on, to the end
  mended_all : {upto : ℕ} {mid : List ℕ} → upto ≡ x.start + length text + (r.n - x.end)
      → mid ≡ over dir (entries x.start) (run (directory_of (lengths_of q after)) (entries x.start) (entries upto)) (entries upto)
      → mid ≡ directory_of L' ++ drop (entries (length L')) dir
  mended_all e m =
      m
      ∙ ap₂ (λ (n : ℕ) (ls : List ℕ). over dir (entries x.start) (run (directory_of ls) (entries x.start) (entries n)) (entries n)) (e ∙ sym L'_length) lengths_after
      ∙ mended L L' dir x.start (omega (arith, L_length, at.ordered, at.inside)) (omega (arith, L'_length)) L_front right_before_lem

  -- or to the run's end, if it has as many characters and symbols as before
  module _ (characters_same : length text ≡ x.end - x.start) (symbols_same : taken ≡ x.last - x.first) where
    front_length : x.start + length text ≡ x.end
    front_length = omega (arith, characters_same, at.ordered)

    E_split : E ≡ (take x.start old ++ text) ++ drop x.end old
    E_split = sym (append_assoc (take x.start old) text (drop x.end old))

    E_front : length (take x.start old ++ text) ≡ x.end
    E_front = omega (arith, length-append (take x.start old) text, length-take-le x.start old (omega (arith, within at, at.ordered)), front_length)

    sum_same : sum (take x.end L) ≡ sum (take x.end L')
    unfolding start_at
    sum_same =
        let before : sum (take x.end L) ≡ x.last = sym (at.upto ∙ ap (λ (ls : List ℕ). start_at ls x.end) (sound_lengths at.held)) in
        let now : sum (take x.end L') ≡ length (symbols_for r.table (take x.end E))
        = ap (λ (ls : List ℕ). start_at ls x.end) (sym lengths_after) ∙ start_after x.end in
        let e : take x.end E ≡ take x.start old ++ text = ap (take x.end) E_split ∙ take_at (take x.start old ++ text) (drop x.end old) x.end E_front in
        let sum = now ∙ ap (λ (t : List ℕ). length (symbols_for r.table t)) e ∙ length_parts c l (take x.start old) text in
        omega (arith, before, sum, first_is at, p.spelled.count, symbols_same, run_ordered at)

    L_behind : drop x.end L ≡ drop x.end L'
    unfolding lengths_for
    L_behind =
        let f : ℕ → ℕ = λ b. length_of c (rank_in l b) in
        map_drop f x.end old
        ∙ ap (map f) (sym (ap (drop x.end) E_split ∙ drop_at (take x.start old ++ text) (drop x.end old) x.end E_front))
        ∙ sym (map_drop f x.end E)

    mended_run : {upto : ℕ} {mid : List ℕ} → upto ≡ x.end
        → mid ≡ over dir (entries x.start) (run (directory_of (lengths_of q after)) (entries x.start) (entries upto)) (entries upto)
        → mid ≡ directory_of L' ++ drop (entries (length L')) dir
    mended_run e m =
        m
        ∙ ap₂ (λ (n : ℕ) (ls : List ℕ). over dir (entries x.start) (run (directory_of ls) (entries x.start) (entries n)) (entries n)) e lengths_after
        ∙ mended_even L L' dir x.start (omega (arith, L_length, at.ordered, at.inside)) (omega (arith, L'_length)) L_front right_before_lem x.end at.ordered
        (omega (arith, L_length, at.inside)) (omega (arith, L_length, L'_length, front_length, at.inside)) sum_same L_behind

  -- with the record and the bytes as they come
  module _ {rec : Roll} {bytes : List ℕ} (a : rec ≡ q) (b : bytes ≡ after) {upto : ℕ}
      (u : upto ≡ changed_upto x (length text) taken (x.start + length text + (r.n - x.end))) where
    which : (changed_upto x (length text) taken (x.start + length text + (r.n - x.end)) ≡ x.start + length text + (r.n - x.end))
        ⊎ ((changed_upto x (length text) taken (x.start + length text + (r.n - x.end)) ≡ x.end) × (length text ≡ x.end - x.start) × (taken ≡ x.last - x.first))
    which = changed_is x (length text) taken (x.start + length text + (r.n - x.end))

    -- what mending asks
    pub mends : Sound rec bytes × (x.start ≤ upto) × (upto ≤ rec.n) × (entries upto ≤ length dir) × (x.first ≡ start_at (lengths_of rec bytes) x.start)
    mends =
        let n : rec.n ≡ x.start + length text + (r.n - x.end) = ap (λ (y : Roll). y.n) a ∙ count_after at text in
        let most : upto ≤ x.start + length text + (r.n - x.end)
        = ⊎_elim (λ s. omega (arith, u ∙ s)) (λ s. omega (arith, u ∙ s.0, s.1, at.ordered)) which in (
          rw (a, b) held_after.sound,
          ⊎_elim (λ s. omega (arith, u ∙ s)) (λ s. omega (arith, u ∙ s.0, at.ordered)) which,
          omega (arith, n, most),
          omega (arith, entries_upto upto most, p.listed),
          first_after ∙ sym (ap₂ (λ (y : Roll) (l : List ℕ). start_at (lengths_of y l) x.start) a b),
        )

    pub mended_upto : {mid : List ℕ}
        → mid ≡ over dir (entries x.start) (run (directory_of (lengths_of rec bytes)) (entries x.start) (entries upto)) (entries upto)
        → mid ≡ directory_of L' ++ drop (entries (length L')) dir
    mended_upto m =
        let e = m
        ∙ ap₂ (λ (y : Roll) (l : List ℕ). over dir (entries x.start) (run (directory_of (lengths_of y l)) (entries x.start) (entries upto)) (entries upto)) a b in
        ⊎_elim (λ s. mended_all (u ∙ s) e) (λ s. mended_run s.1 s.2 (u ∙ s.0) e) which

  -- and those that are no longer used are cleared
  pub directory_after_lem : {n n' : ℕ} {mid dir_after : List ℕ} → mid ≡ directory_of L' ++ drop (entries (length L')) dir
      → n' ≡ entries (x.start + length text + (r.n - x.end)) → n ≡ entries r.n → dir_after ≡ over mid n' (zeros (n - n')) (n' + (n - n'))
      → dir_after ≡ directory_after r E dir
  directory_after_lem {n} {n'} {mid} m a b e =
      e
      ∙ ap (λ (d : List ℕ). over d n' (zeros (n - n')) (n' + (n - n'))) m
      ∙ ap₂ (λ (i j : ℕ). over (directory_of L' ++ drop (entries (length L')) dir) j (zeros (i - j)) (j + (i - j))) (b ∙ ap entries (sym L_length)) (a ∙ ap entries (sym L'_length))
      ∙ mended_cleared L L' dir
      ∙ ap (λ (i : ℕ). in_place (entries i) (directory_of L') dir) L_length
