-- `sound::ends::stops_listed` meets its contract: the part of the table for s is copied.
use Rattle.std.proofs.Common.{◌≡◌, ℕ, ◌+◌, ◌-◌, ◌*◌, ◌<◌, List, [], ◌∷◌, length, get_or, take, drop, ap, ◌∙◌, arith}
use lib.Seq.{get_or-take, get_or-drop}
use Rattle.ground.specs.Paper.Rows.{tab}
use Rattle.ground.specs.Laws.Rows.{tab_ext}
use Rattle.symbols.specs.Paper.Symbols.{symbols_of}
use Rattle.sound.specs.Helpers.Ends.{stops, stops_of_two}
use Rattle.sound.specs.Laws.Stops.{listed_at}
use Rattle.sound.proofs.ends.stops_listed.Goals as goal

part : (s n : ℕ) (row : List ℕ) → 0 < s → s < 4 → n ≡ 256 → length row ≡ 256 → row ≡ take n (drop (256 * (s - 1)) stops_of_two)
    → row ≡ tab (λ b. stops (λ _. s) 0 (symbols_of 2 (b ∷ []))) 0 256
part s n row low high e long is =
    tab_ext (λ b. stops (λ _. s) 0 (symbols_of 2 (b ∷ []))) 256 row long
    (λ b h.
    ap (λ (l : List ℕ). get_or l b 0) is
    ∙ get_or-take n (drop (256 * (s - 1)) stops_of_two) b 0 (omega arith)
    ∙ get_or-drop (256 * (s - 1)) stops_of_two b 0
    ∙ listed_at s b h low high)

pub returns : goal.returns
returns c =
    part c.args.s (256 * (c.from.result - 1) + 256 - 256 * (c.from.result - 1)) c.copy_from_slice.new.self c.requires.0 c.requires.1 (omega arith) c.copy_from_slice.ensures.len
    (rw (← c.from.ensures, ← c.stops_of_two-table.ensures) c.copy_from_slice.ensures.after)
