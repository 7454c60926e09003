use Rattle.std.proofs.Common.{ℕ, ◌^◌, ◌<◌, ◌≤◌, ◌∙◌, ap, arith, length, refl, subst, sym}
use Rattle.std.specs.List.{Contains}
use Rattle.branch_workers.proofs.CrewLaws.{on_ok}
use Rattle.branch_workers.proofs.LoggedLaws.{grown_seen}
use Rattle.branch_workers.proofs.ReportLaws.{bar_here, seen_more}
use Rattle.branch_workers.proofs.StockLaws.{stocked_seen}
use Rattle.branch_workers.proofs.SharingLaws.{fetched_place, fetched_seen, imported_grown, imported_stocked, last_is_seen_too, same_seen, shareable_here}
use Rattle.branch_workers.proofs.sharing.take_in.Goals as goal

pub returns-in_default : goal.returns-in_default
returns-in_default c =
    let kept = same_seen c.args.seat.now.seen c.fetch.new.seat.seen (fetched_seen c.args.slot c.args.seat.now c.fetch.new.seat c.fetch.result c.fetch.ensures) in
    record {
      place = fetched_place c.args.slot c.args.seat.now c.fetch.new.seat c.fetch.result c.fetch.ensures;
      grown = grown_seen _ _ _ _ kept;
      stocked = stocked_seen _ _ _ _ _ kept c.requires.stocked;
    }

pub returns-then-see-bar-clause-grown : goal.returns-then-see-bar-clause-grown
returns-then-see-bar-clause-grown c =
    let kept = λ (k : ℕ) (i : Contains c.args.seat.now.seen k). seen_more c.fetch.new.seat.seen c.see.new.seat.seen c.see.result (ap (λ s. s.seen) c.see.ensures.seen) k
    (same_seen c.args.seat.now.seen c.fetch.new.seat.seen (fetched_seen c.args.slot c.args.seat.now c.fetch.new.seat c.fetch.result c.fetch.ensures) k i) in
    grown_seen _ _ _ _ kept

pub returns-then-see-bar-clause-stocked : goal.returns-then-see-bar-clause-stocked
returns-then-see-bar-clause-stocked c =
    let kept = λ (k : ℕ) (i : Contains c.args.seat.now.seen k). seen_more c.fetch.new.seat.seen c.see.new.seat.seen c.see.result (ap (λ s. s.seen) c.see.ensures.seen) k
    (same_seen c.args.seat.now.seen c.fetch.new.seat.seen (fetched_seen c.args.slot c.args.seat.now c.fetch.new.seat c.fetch.result c.fetch.ensures) k i) in
    stocked_seen _ _ _ _ _ kept c.requires.stocked

pub returns-clause-grown : goal.returns-clause-grown
returns-clause-grown c =
    let kept = λ (k : ℕ) (i : Contains c.args.seat.now.seen k). seen_more c.fetch.new.seat.seen c.see.new.seat.seen c.see.result (ap (λ s. s.seen) c.see.ensures.seen) k
    (same_seen c.args.seat.now.seen c.fetch.new.seat.seen (fetched_seen c.args.slot c.args.seat.now c.fetch.new.seat c.fetch.result c.fetch.ensures) k i) in
    let shareable = shareable_here c.args.seat.now.place c.args.board.now c.args.codes.now c.in-Got.capsule c.requires.board.0 c.requires.board.1 c.in-Got.ensures.1 in
    let bar = bar_here c.args.board.now c.args.board.now c.args.codes.now c.see.result refl c.requires.board.1 c.see.ensures.key in
    let fits : c.in-Got.capsule.bar < 2 ^ 64 = let e = c.bar-bar.ensures in let t = c.bar-bar.type_inv in omega arith in
    let low : c.see.result ≤ c.in-Got.capsule.bar = let e = c.bar-bar.ensures in let t = c.if-see-bar.false in omega arith in
    on_ok c.import.result _ _ (λ imp. imported_grown c.args.codes.now c.see.result c.in-Got.capsule c.args.log.now c.import.new.log c.args.store.now c.import.new.store _ _ c.keys_are_small.ensures shareable fits bar low kept imp) c.import.ensures

pub returns-clause-stocked : goal.returns-clause-stocked
returns-clause-stocked c =
    let kept = λ (k : ℕ) (i : Contains c.args.seat.now.seen k). seen_more c.fetch.new.seat.seen c.see.new.seat.seen c.see.result (ap (λ s. s.seen) c.see.ensures.seen) k
    (same_seen c.args.seat.now.seen c.fetch.new.seat.seen (fetched_seen c.args.slot c.args.seat.now c.fetch.new.seat c.fetch.result c.fetch.ensures) k i) in
    let shareable = shareable_here c.args.seat.now.place c.args.board.now c.args.codes.now c.in-Got.capsule c.requires.board.0 c.requires.board.1 c.in-Got.ensures.1 in
    let bar = bar_here c.args.board.now c.args.board.now c.args.codes.now c.see.result refl c.requires.board.1 c.see.ensures.key in
    let fits : c.in-Got.capsule.bar < 2 ^ 64 = let e = c.bar-bar.ensures in let t = c.bar-bar.type_inv in omega arith in
    let low : c.see.result ≤ c.in-Got.capsule.bar = let e = c.bar-bar.ensures in let t = c.if-see-bar.false in omega arith in
    on_ok c.import.result _ _ (λ imp. imported_stocked c.args.codes.now c.see.result c.in-Got.capsule c.args.log.now c.import.new.log c.args.store.now c.import.new.store c.args.seat.now.seen c.see.new.seat.seen imp.some shareable fits bar low
    (last_is_seen_too c.fetch.new.seat.seen c.see.new.seat.seen c.see.result (ap (λ s. s.seen) c.see.ensures.seen)) kept imp c.requires.stocked) c.import.ensures
