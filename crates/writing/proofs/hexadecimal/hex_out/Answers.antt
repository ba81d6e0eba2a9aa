-- `writing::hexadecimal::hex_out` meets its contract: the lines passed are put.
use Rattle.std.proofs.Common.{◌≡◌, ℕ, ◌+◌, ◌≤◌, ◌<◌, min, List, ◌∷◌, ◌++◌, ap, ◌∙◌, length, length-append, arith}
use Rattle.std.proofs.lemmas.List.{nil_from_length}
use Rattle.writing.specs.Paper.Written.{hex_row, hex_lines}
use Rattle.writing.specs.Laws.Written.{going_as, going_room, going_next, going_more, going_byte, going_all, hex_first, hex_done}
use Rattle.writing.proofs.hexadecimal.hex_out.Goals as goal

-- of the bytes that are left, the next line: it is full, or the last
next_line : {left : List ℕ} (line rest : List ℕ) {size : ℕ} → size ≡ 32 → left ≡ line ++ rest → length line ≡ min size (length left) → 0 < length left
    → hex_lines left ≡ hex_row line ++ (10 ∷ hex_lines rest)
next_line {left} line rest e s n h =
    let all : length left ≡ length line + length rest = ap length s ∙ length-append line rest in
    ap hex_lines s ∙ hex_first line rest (omega arith) (omega arith) (λ short. nil_from_length rest (omega arith))

pub row_out-p-requires : goal.row_out-p-requires
row_out-p-requires c =
    let line = c.in-Some.line.now in
    let rest = c.next.new.self.rest.now in
    let s = c.in-Some.ensures.steps.1 in
    going_next c.requires (hex_row line) (10 ∷ hex_lines rest)
    (going_as (next_line line rest c.loop-line.invariant.0 s.0 s.1 s.2) c.loop-line.invariant.1)

pub bounds-out-p : goal.bounds-out-p
bounds-out-p c =
    let line = c.in-Some.line.now in
    let s = c.in-Some.ensures.steps.1 in
    let g = going_as (next_line line c.next.new.self.rest.now c.loop-line.invariant.0 s.0 s.1 s.2) c.loop-line.invariant.1 in
    omega (arith, going_room c.requires (going_more c.requires (hex_row line) g c.row_out-p.ensures.out c.row_out-p.ensures.next))

pub loop-line-preserved : goal.loop-line-preserved
loop-line-preserved c =
    let line = c.in-Some.line.now in
    let e = c.in-Some.ensures.steps in
    let s = e.1 in
    let g = going_as (next_line line c.next.new.self.rest.now c.loop-line.invariant.0 s.0 s.1 s.2) c.loop-line.invariant.1 in
    (e.0 ∙ c.loop-line.invariant.0, going_byte c.requires (going_more c.requires (hex_row line) g c.row_out-p.ensures.out c.row_out-p.ensures.next))

pub returns : goal.returns
returns c =
    let left = c.loop-line.line-iterator.rest.now in
    let none : length left ≤ 0 = omega (arith, c.in-None.ensures.steps.1.0) in
    let g = going_all c.requires (going_as (hex_done left 0 0 none (omega arith)) c.loop-line.invariant.1) in
    record { next = g.0; out = g.1 }
