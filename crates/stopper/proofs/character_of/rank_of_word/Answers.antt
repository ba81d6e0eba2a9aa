-- `stopper::character_of::rank_of_word` meets its contract: `Seen` of the symbols up to the length.
use Rattle.std.proofs.Common.{◌≡◌, sym, ◌∙◌, ℕ, ◌<◌, List, length, take, get_or, arith, rules}
use lib.Seq.{length-take-le, get_or-take}
use Rattle.stopper.specs.Paper.Table.{longest}
use Rattle.stopper.specs.Laws.Seen.{seen_none, seen_small, seen_open}
use Rattle.stopper.specs.declared.code.Code.{Code}
use Rattle.stopper.specs.declared.reading.Reader.{Reader}
use Rattle.stopper.proofs.Words.{ended, too_big, is_bad_lem, is_rank}
use Rattle.stopper.proofs.character_of.rank_of_word.Invariants.{At}
use Rattle.stopper.proofs.character_of.rank_of_word.Goals as goal

-- the symbol in hand is one of those up to the length
module _ {c : Code} {σ n : ℕ} {symbols : List ℕ} {i : ℕ} {r : Reader} (v : At c σ n symbols i r) (h : i < n) where
  here : get_or (take n symbols) i 0 ≡ get_or symbols i 0
  here = get_or-take n symbols i 0 h

  inside : i < length (take n symbols)
  inside = omega (arith, v.long, h)

pub loop-i-init : goal.loop-i-init
loop-i-init c =
    let all : length c.args.symbols ≡ longest = search rules in
    record {
      long = length-take-le c.args.length c.args.symbols (omega (arith, c.requires, all));
      room = c.requires;
      seen = rw c.opening-r.ensures (seen_none c.args.ranks.good.code c.args.ranks.sigma (take c.args.length c.args.symbols));
    }

pub returns-then-m-from : goal.returns-then-m-from
returns-then-m-from c =
    let v = c.loop-i.invariant in
    too_big c.args.ranks.good.code c.args.ranks.good.good c.args.ranks.sigma _ v.seen (inside v c.loop-i-test.true) (here v c.loop-i-test.true)
    (omega (arith, c.base_of-m.ensures, c.if-m-from.true))

pub read_symbol-requires : goal.read_symbol-requires
read_symbol-requires c = seen_small c.args.ranks.good.code c.args.ranks.good.good c.args.ranks.sigma _ c.loop-i.invariant.seen c.args.ranks.few

pub returns-in-Rank : goal.returns-in-Rank
returns-in-Rank c =
    let v = c.loop-i.invariant in
    c.if_last.ensures
    ∙ is_rank c.args.ranks.good.code c.args.ranks.good.good c.args.ranks.sigma _ v.seen (inside v c.loop-i-test.true) (here v c.loop-i-test.true) (sym c.in-Rank.is ∙ c.read_symbol.ensures) _ (sym v.long)

pub returns-in-Bad : goal.returns-in-Bad
returns-in-Bad c =
    let v = c.loop-i.invariant in
    is_bad_lem c.args.ranks.good.code c.args.ranks.good.good c.args.ranks.sigma _ v.seen (inside v c.loop-i-test.true) (here v c.loop-i-test.true) (sym c.in-Bad.is ∙ c.read_symbol.ensures)

pub loop-i-preserved : goal.loop-i-preserved
loop-i-preserved c =
    let v = c.loop-i.invariant in
    record {
      long = v.long;
      room = v.room;
      seen = seen_open c.args.ranks.good.code c.args.ranks.good.good c.args.ranks.sigma _ v.seen (inside v c.loop-i-test.true) (here v c.loop-i-test.true)
          (omega (arith, c.base_of-m.ensures, c.if-m-from.false))
          (sym c.in-Open.is ∙ c.read_symbol.ensures);
    }

pub returns : goal.returns
returns c =
    let v = c.loop-i.invariant in
    ended c.args.ranks.good.code c.args.ranks.good.good c.args.ranks.sigma _ v.seen (omega (arith, v.long, c.loop-i-test.false))
