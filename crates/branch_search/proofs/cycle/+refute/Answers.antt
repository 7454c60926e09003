use Rattle.std.proofs.Common.{◌≡◌, ◌+◌, ◌*◌, ◌<◌, ◌≤◌, ◌∙◌, true, refl, sym, ap, subst, inl, inr, arith, length}
use Rattle.std.proofs.lemmas.Option.{same_Some}
use Rattle.common_lists.proofs.ListLaws.{match_some, ok_weaker}
use Rattle.plan_rule.specs.Boxes.{exact}
use Rattle.plan_rule.specs.Yards.{choices}
use Rattle.branch_kernel.specs.States.{state}
use Rattle.branch_kernel.specs.Boxes.{inexact, node_box}
use Rattle.branch_kernel.specs.Nodes.{IsNode}
use Rattle.branch_kernel.specs.Marks.{has}
use Rattle.branch_kernel.specs.declared.covering.Covered.{Covered}
use Rattle.branch_kernel.specs.Shows.{IsShown}
use Rattle.branch_kernel.proofs.NodeLaws.{runs_self, runs_onto, ready_later, node_at, place_of_node, cited_empty, cited_once_more, match_none}
use Rattle.branch_kernel.proofs.DropLaws.{shown_from}
use Rattle.branch_search.proofs.FitLaws.{asked_low, asked_own}
use Rattle.branch_kernel.proofs.WalkLaws.{flipped, jump_shown, jumped_node, along_settled, by_a_part, open_inexact, part_open, range_fewer, side_inside}
use Rattle.branch_kernel.proofs.SplitLaws.{split_node, split_inside, shown_inside, split_inexact, child_inexact}
use Rattle.branch_kernel.proofs.CloseLaws.{closed_done}
use Rattle.branch_search.specs.Views.{IsView}
use Rattle.branch_search.proofs.ViewLaws.{view_more}
use Rattle.branch_search.proofs.CycleLaws.{covers_from, handled_all, handled_next, listed, on_block, opened, part_jumps, segment_cut, segment_free, segment_node}
use Rattle.branch_search.proofs.RoomLaws.{child_room, code_room, segment_room, room, split_room}
use Rattle.branch_search.proofs.cycle.+refute.Goals as goal

pub divide-loop-at-init : goal.divide-loop-at-init
divide-loop-at-init g t c = record {
  served = c.requires.served;
  home = refl;
  runs = runs_self (choices c.args.codes.now) _ _ c.requires.ready;
  prefix = refl;
  view = subst (λ y. IsView y c.args.side.now (has c.none-needs.result) c.args.range.block c.in_ok-view.view) c.requires.tables (c.in_ok-view.ensures (has c.none-needs.result) c.args.range.block);
  handled = λ k d low high. absurd (omega arith);
  cited = cited_empty (choices c.args.codes.now) _ _ _ _ c.new-cites.ensures.items;
}

pub divide-returns-in_err-order-clause-runs : goal.divide-returns-in_err-order-clause-runs
divide-returns-in_err-order-clause-runs g t c = runs_self (choices c.args.codes.now) _ _ c.requires.ready

pub divide-settle_segment-requires : goal.divide-settle_segment-requires
divide-settle_segment-requires g t c κs within =
    let below : c.loop-at.at < length c.in_ok-order.order.list.items = subst (λ n. c.loop-at.at < n) (c.len-at-end.ensures ∙ c.in_ok-order.order.list.ok.0) c.loop-at-test.true in
    let segment = listed c.in_ok-order.order.list.items c.args.range c.loop-at.at c.index-segment.result.now c.in_ok-order.ensures.inside below c.index-segment.ensures in
    let now : 6 * (inexact (choices c.args.codes.now) c.args.side.now + room (choices c.args.codes.now) (node_box (choices c.args.codes.now) c.args.side.now c.args.range.block c.args.range.lo c.args.range.hi)) + 2 ≡ t = c.decreases in
    let smaller : 6 * (inexact (choices c.args.codes.now) c.args.side.now + room (choices c.args.codes.now) (node_box (choices c.args.codes.now) c.args.side.now c.args.range.block c.args.range.lo c.args.range.hi)) + 1 < t = omega arith in (
      smaller,
      (
        within,
        (
          c.requires.tables,
          (
            c.loop-at.invariant.served,
            (
              ready_later (choices c.args.codes.now) _ _ _ c.requires.ready c.loop-at.invariant.runs,
              (c.requires.node, (segment, c.loop-at.invariant.view)),
            ),
          ),
        ),
      ),
    )

pub divide-returns-in_err-settled-clause-runs : goal.divide-returns-in_err-settled-clause-runs
divide-returns-in_err-settled-clause-runs g t c = runs_onto (choices c.args.codes.now) _ _ _ _ c.requires.ready c.loop-at.invariant.runs c.settle_segment.ensures.runs

pub divide-returns-in_err-note-clause-runs : goal.divide-returns-in_err-note-clause-runs
divide-returns-in_err-note-clause-runs g t c = runs_onto (choices c.args.codes.now) _ _ _ _ c.requires.ready c.loop-at.invariant.runs c.settle_segment.ensures.runs

pub divide-returns-in-Some-clause-runs : goal.divide-returns-in-Some-clause-runs
divide-returns-in-Some-clause-runs g t c = runs_onto (choices c.args.codes.now) _ _ _ _ c.requires.ready c.loop-at.invariant.runs c.settle_segment.ensures.runs

pub divide-returns-in-Some-clause-shown : goal.divide-returns-in-Some-clause-shown
divide-returns-in-Some-clause-shown g t c =
    let (last, shown) = c.in_ok-settled.ensures.jumped c.if-settled.true c.in-Some.number c.in-Some.is in (
      last,
      jumped_node (choices c.args.codes.now) _ _ _ _ _ c.args.side.now c.args.range.block c.args.range.lo c.args.range.hi c.requires.node.free c.loop-at.invariant.runs.grows shown,
    )

pub divide-loop-at-preserved : goal.divide-loop-at-preserved
divide-loop-at-preserved g t c =
    let (handled, cited) = c.in_ok-settled.ensures.covered in
    let below : c.loop-at.at < length c.in_ok-order.order.list.items = subst (λ n. c.loop-at.at < n) (c.len-at-end.ensures ∙ c.in_ok-order.order.list.ok.0) c.loop-at-test.true in
    let segment = listed c.in_ok-order.order.list.items c.args.range c.loop-at.at c.index-segment.result.now c.in_ok-order.ensures.inside below c.index-segment.ensures in
    record {
      served = c.settle_segment.ensures.served;
      home = c.settle_segment.ensures.home ∙ c.loop-at.invariant.home;
      runs = runs_onto (choices c.args.codes.now) _ _ _ _ c.requires.ready c.loop-at.invariant.runs c.settle_segment.ensures.runs;
      prefix = c.settle_segment.ensures.prefix ∙ c.loop-at.invariant.prefix;
      view = c.settle_segment.ensures.view;
      handled = handled_next (choices c.args.codes.now) _ _ _ _ _ _ _ _ _ _ _ _ _ _ c.in_ok-order.order.list.items c.requires.ready.fits c.loop-at.invariant.runs.grows c.settle_segment.ensures.runs.grows c.in_ok-note.ensures
          c.settle_segment.ensures.needs below c.index-segment.ensures c.loop-at.invariant.handled
          (on_block (choices c.args.codes.now) _ _ _ _ _ _ _ _ c.index-segment.result.now segment.block handled);
      cited = cited_once_more (choices c.args.codes.now) _ _ _ _ _ _ _ _ c.requires.ready.fits c.loop-at.invariant.runs.grows c.settle_segment.ensures.runs.grows c.in_ok-note.ensures
          c.loop-at.invariant.cited cited;
    }

pub divide-returns-clause-runs : goal.divide-returns-clause-runs
divide-returns-clause-runs g t c =
    let past : length c.in_ok-order.order.list.items ≤ c.loop-at.at = subst (λ n. n ≤ c.loop-at.at) (c.len-at-end.ensures ∙ c.in_ok-order.order.list.ok.0) c.loop-at-test.false in
    let handled = handled_all (choices c.args.codes.now) _ _ _ _ _ _ c.args.range c.loop-at.at c.in_ok-order.order.list.items c.in_ok-order.ensures.each past c.loop-at.invariant.handled in
    (closed_done (choices c.args.codes.now) _ _ _ _ _ _ _ _ _ _ _ _ _ c.args.range.hi c.close.result c.requires.ready c.loop-at.invariant.runs (place_of_node (choices c.args.codes.now) _ _ _ _ _ c.requires.node)
    c.requires.asked handled (omega arith) c.loop-at.invariant.cited c.close.ensures).0

pub divide-returns-clause-shown : goal.divide-returns-clause-shown
divide-returns-clause-shown g t c =
    let past : length c.in_ok-order.order.list.items ≤ c.loop-at.at = subst (λ n. n ≤ c.loop-at.at) (c.len-at-end.ensures ∙ c.in_ok-order.order.list.ok.0) c.loop-at-test.false in
    let handled = handled_all (choices c.args.codes.now) _ _ _ _ _ _ c.args.range c.loop-at.at c.in_ok-order.order.list.items c.in_ok-order.ensures.each past c.loop-at.invariant.handled in
    (closed_done (choices c.args.codes.now) _ _ _ _ _ _ _ _ _ _ _ _ _ c.args.range.hi c.close.result c.requires.ready c.loop-at.invariant.runs (place_of_node (choices c.args.codes.now) _ _ _ _ _ c.requires.node)
    c.requires.asked handled (omega arith) c.loop-at.invariant.cited c.close.ensures).1

pub refute-divide-requires : goal.refute-divide-requires
refute-divide-requires g t c κs within =
    let now : 6 * (inexact (choices c.args.codes.now) c.args.part.now + room (choices c.args.codes.now) c.args.part.now) + 3 ≡ t = c.decreases in
    let fewer = split_inexact (choices c.args.codes.now) c.args.part.now c.in_ok-side.side c.in_ok-chosen.chosen c.requires.open.part_is.ascending c.in_ok-chosen.ensures.open c.in_ok-side.ensures in
    let node = split_node (choices c.args.codes.now) _ _ _ _ c.range_on-range.result c.requires.open c.in_ok-chosen.ensures.block c.range_on-range.ensures c.in_ok-side.ensures in
    let no_more = split_room (choices c.args.codes.now) c.args.part.now c.in_ok-side.side c.in_ok-chosen.chosen c.range_on-range.result c.requires.open.part_is.ascending c.range_on-range.ensures node.free c.in_ok-side.ensures in
    let smaller : 6 * (inexact (choices c.args.codes.now) c.in_ok-side.side + room (choices c.args.codes.now) (node_box (choices c.args.codes.now) c.in_ok-side.side c.range_on-range.result.block c.range_on-range.result.lo c.range_on-range.result.hi)) + 2 < t = omega arith in
    let none = match_none _ _ _ c.in_ok-shown.ensures.shown c.in_default.is in (
      smaller,
      (
        within,
        (
          c.requires.tables,
          (
            c.fitted.ensures.served,
            (
              ready_later (choices c.args.codes.now) _ _ _ c.requires.ready c.fitted.ensures.runs,
              (
                node,
                asked_low (choices c.args.codes.now) c.args.part.now _ _ _ _ c.requires.open.part_is c.requires.open.clear none (omega arith) c.in_ok-side.ensures,
              ),
            ),
          ),
        ),
      ),
    )

pub refute-returns-clause-runs : goal.refute-returns-clause-runs
refute-returns-clause-runs g t c = runs_onto (choices c.args.codes.now) _ _ _ _ c.requires.ready c.fitted.ensures.runs c.divide.ensures.runs

pub refute-returns-clause-shown : goal.refute-returns-clause-shown
refute-returns-clause-shown g t c =
    ok_weaker c.divide.result _ _ (λ shown h. (
      h.0,
      shown_inside (choices c.args.codes.now) _ _ _ _ _ c.args.part.now
          (split_inside (choices c.args.codes.now) c.args.part.now c.in_ok-side.side c.in_ok-chosen.chosen c.range_on-range.result c.range_on-range.ensures c.in_ok-side.ensures)
          (shown_from (choices c.args.codes.now) _ _ _ _ _ _ c.fitted.ensures.runs.grows h.1),
    )) c.divide.ensures.shown

pub deeper-refute-requires : goal.deeper-refute-requires
deeper-refute-requires g t c κs within =
    let now : 6 * (inexact (choices c.args.codes.now) c.args.part.now + room (choices c.args.codes.now) c.args.part.now) + 5 ≡ t = c.decreases in
    let smaller : 6 * (inexact (choices c.args.codes.now) c.args.part.now + room (choices c.args.codes.now) c.args.part.now) + 3 < t = omega arith in
    (smaller, (within, (c.requires.tables, (c.requires.served, (c.requires.ready, (c.requires.open, (c.requires.block, c.requires.unset)))))))

pub deeper-along-requires : goal.deeper-along-requires
deeper-along-requires g t c κs within =
    let now : 6 * (inexact (choices c.args.codes.now) c.args.part.now + room (choices c.args.codes.now) c.args.part.now) + 5 ≡ t = c.decreases in
    let fewer = split_inexact (choices c.args.codes.now) c.args.part.now c.in_ok-side.side c.args.block c.requires.open.part_is.ascending c.requires.unset c.in_ok-side.ensures in
    let node = split_node (choices c.args.codes.now) _ _ _ _ c.range_on-range.result c.requires.open c.requires.block c.range_on-range.ensures c.in_ok-side.ensures in
    let no_more = split_room (choices c.args.codes.now) c.args.part.now c.in_ok-side.side c.args.block c.range_on-range.result c.requires.open.part_is.ascending c.range_on-range.ensures node.free c.in_ok-side.ensures in
    let smaller : 6 * (inexact (choices c.args.codes.now) c.in_ok-side.side + room (choices c.args.codes.now) (node_box (choices c.args.codes.now) c.in_ok-side.side c.range_on-range.result.block c.range_on-range.result.lo c.range_on-range.result.hi)) + 4 < t = omega arith in (
      smaller,
      (
        within,
        (
          c.requires.tables,
          (
            c.requires.served,
            (
              c.requires.ready,
              node,
            ),
          ),
        ),
      ),
    )

pub deeper-returns-clause-shown : goal.deeper-returns-clause-shown
deeper-returns-clause-shown g t c =
    ok_weaker c.along.result _ _ (λ shown h. (
      h.0,
      shown_inside (choices c.args.codes.now) _ _ _ _ _ c.args.part.now
          (split_inside (choices c.args.codes.now) c.args.part.now c.in_ok-side.side c.args.block c.range_on-range.result c.range_on-range.ensures c.in_ok-side.ensures) h.1,
    )) c.along.ensures.shown

pub deeper-returns-in_err-side-clause-runs : goal.deeper-returns-in_err-side-clause-runs
deeper-returns-in_err-side-clause-runs g t c = runs_self (choices c.args.codes.now) _ _ c.requires.ready

pub settle_segment-returns-then-segment-clause-runs : goal.settle_segment-returns-then-segment-clause-runs
settle_segment-returns-then-segment-clause-runs g t c = runs_self (choices c.args.codes.now) _ _ c.requires.ready

pub settle_segment-settle-requires : goal.settle_segment-settle-requires
settle_segment-settle-requires g t c κs within =
    let some = c.if-segment.false in
    let one = c.if-segment-2.true in
    let low = c.requires.segment.low in
    let high = c.requires.segment.high in
    let now : 6 * (inexact (choices c.args.codes.now) c.args.side.now + room (choices c.args.codes.now) (node_box (choices c.args.codes.now) c.args.side.now c.args.range.block c.args.range.lo c.args.range.hi)) + 1 ≡ t = c.decreases in
    let no_more = code_room (choices c.args.codes.now) c.args.side.now c.args.range.block c.args.range.lo c.args.range.hi c.args.segment.lo c.requires.node.free low (omega arith) in
    let smaller : 6 * (inexact (choices c.args.codes.now) c.args.side.now + room (choices c.args.codes.now) (node_box (choices c.args.codes.now) c.args.side.now c.args.range.block c.args.segment.lo (c.args.segment.lo + 1))) < t = omega arith in
    let same = sym c.requires.segment.block in (
      subst (λ b. 6 * (inexact (choices c.args.codes.now) c.args.side.now + room (choices c.args.codes.now) (node_box (choices c.args.codes.now) c.args.side.now b c.args.segment.lo (c.args.segment.lo + 1))) < t) same smaller,
      (
        within,
        (
          c.requires.tables,
          (
            c.requires.served,
            (
              c.requires.ready,
              (
                subst (λ b. IsNode (choices c.args.codes.now) c.args.job c.args.side.now b c.args.segment.lo (c.args.segment.lo + 1)) same (node_at (choices c.args.codes.now) _ _ _ _ _ _ c.requires.node low (omega arith)),
                subst (λ b. IsView c.args.codes.now c.args.side.now (has c.args.needs.now) b c.args.view.now) same c.requires.view,
              ),
            ),
          ),
        ),
      ),
    )

pub settle_segment-returns-in_err-part-clause-runs : goal.settle_segment-returns-in_err-part-clause-runs
settle_segment-returns-in_err-part-clause-runs g t c = runs_self (choices c.args.codes.now) _ _ c.requires.ready

pub settle_segment-open_or-next-requires-clause-open : goal.settle_segment-open_or-next-requires-clause-open
settle_segment-open_or-next-requires-clause-open g t c =
    let some = c.if-segment.false in
    let wide = c.if-segment-2.false in
    open_inexact c.args.side.now c.in_ok-part.part c.args.segment c.requires.node.side_is.ascending (segment_free c.args.side.now c.args.range c.args.segment c.requires.node.free c.requires.segment) (omega arith) c.in_ok-part.ensures

pub settle_segment-refute-requires : goal.settle_segment-refute-requires
settle_segment-refute-requires g t c κs within =
    let some = c.if-segment.false in
    let wide = c.if-segment-2.false in
    let several : c.args.segment.lo + 1 < c.args.segment.hi = omega arith in
    let free = segment_free c.args.side.now c.args.range c.args.segment c.requires.node.free c.requires.segment in
    let now : 6 * (inexact (choices c.args.codes.now) c.args.side.now + room (choices c.args.codes.now) (node_box (choices c.args.codes.now) c.args.side.now c.args.range.block c.args.range.lo c.args.range.hi)) + 1 ≡ t = c.decreases in
    let fewer = range_fewer (choices c.args.codes.now) c.args.side.now c.in_ok-part.part c.args.segment c.requires.node.side_is.ascending free c.in_ok-part.ensures in
    let less = segment_room (choices c.args.codes.now) c.args.side.now c.in_ok-part.part c.args.range c.args.segment c.requires.node.block c.requires.node.free c.requires.node.range c.requires.segment several c.in_ok-part.ensures in
    let smaller : 6 * (inexact (choices c.args.codes.now) c.in_ok-part.part + room (choices c.args.codes.now) c.in_ok-part.part) + 3 < t = omega arith in (
      smaller,
      (
        within,
        (
          c.requires.tables,
          (
            c.requires.served,
            (
              c.requires.ready,
              (
                part_open (choices c.args.codes.now) c.args.job c.args.side.now c.in_ok-part.part c.args.segment (segment_node (choices c.args.codes.now) c.args.job c.args.side.now c.args.range c.args.segment c.requires.node c.requires.segment (omega arith)) several
                    (segment_cut (choices c.args.codes.now) c.args.job c.args.side.now c.args.range c.args.segment c.requires.node c.requires.segment several) c.in_ok-part.ensures,
                (c.open_or-next.ensures.block, c.open_or-next.ensures.open),
              ),
            ),
          ),
        ),
      ),
    )

pub settle_segment-returns-clause-covered : goal.settle_segment-returns-clause-covered
settle_segment-returns-clause-covered g t c =
    let some = c.if-segment.false in
    by_a_part (choices c.args.codes.now) _ _ _ c.args.side.now c.in_ok-part.part (has c.add_result.new.needs) c.args.segment c.in_ok-shown.shown.number c.records.result.now c.index-records-shown.result
    c.requires.ready.known (segment_free c.args.side.now c.args.range c.args.segment c.requires.node.free c.requires.segment) c.in_ok-part.ensures c.in_ok-shown.ensures.shown.1 c.records.ensures.value c.index-records-shown.is c.add_result.ensures.added (omega arith)

pub along-returns-in-Some-clause-shown : goal.along-returns-in-Some-clause-shown
along-returns-in-Some-clause-shown g t c =
    let (last, shown) = match_some _ _ _ c.in-Some.shown c.in_ok-shown.ensures.shown c.in-Some.is in
    (last, shown_inside (choices c.args.codes.now) _ _ _ _ _ _ (side_inside (choices c.args.codes.now) c.args.side.now c.args.range.block c.args.range.lo c.args.range.hi c.requires.node.free) shown)

pub along-divide-requires : goal.along-divide-requires
along-divide-requires g t c κs within =
    let now : 6 * (inexact (choices c.args.codes.now) c.args.side.now + room (choices c.args.codes.now) (node_box (choices c.args.codes.now) c.args.side.now c.args.range.block c.args.range.lo c.args.range.hi)) + 4 ≡ t = c.decreases in
    let smaller : 6 * (inexact (choices c.args.codes.now) c.args.side.now + room (choices c.args.codes.now) (node_box (choices c.args.codes.now) c.args.side.now c.args.range.block c.args.range.lo c.args.range.hi)) + 2 < t = omega arith in
    let none = match_none _ _ _ c.in_ok-shown.ensures.shown c.in_default.is in (
      smaller,
      (
        within,
        (
          c.requires.tables,
          (
            c.fitted.ensures.served,
            (
              ready_later (choices c.args.codes.now) _ _ _ c.requires.ready c.fitted.ensures.runs,
              (
                c.requires.node,
                asked_own (choices c.args.codes.now) c.args.side.now _ c.requires.node.side_is c.requires.node.clear none,
              ),
            ),
          ),
        ),
      ),
    )

pub along-returns-in_default-own_code-clause-runs : goal.along-returns-in_default-own_code-clause-runs
along-returns-in_default-own_code-clause-runs g t c = runs_onto (choices c.args.codes.now) _ _ _ _ c.requires.ready c.fitted.ensures.runs c.divide.ensures.runs

pub along-returns-in_default-own_code-clause-shown : goal.along-returns-in_default-own_code-clause-shown
along-returns-in_default-own_code-clause-shown g t c =
    ok_weaker c.divide.result _ _ (λ shown h. (h.0, shown_from (choices c.args.codes.now) _ _ _ _ _ _ c.fitted.ensures.runs.grows h.1)) c.divide.ensures.shown

pub along-returns-in_err-own-clause-runs : goal.along-returns-in_err-own-clause-runs
along-returns-in_err-own-clause-runs g t c = runs_onto (choices c.args.codes.now) _ _ _ _ c.requires.ready c.fitted.ensures.runs c.settle.ensures.runs

pub along-settle-requires : goal.along-settle-requires
along-settle-requires g t c κs within =
    let now : 6 * (inexact (choices c.args.codes.now) c.args.side.now + room (choices c.args.codes.now) (node_box (choices c.args.codes.now) c.args.side.now c.args.range.block c.args.range.lo c.args.range.hi)) + 4 ≡ t = c.decreases in
    let no_more = code_room (choices c.args.codes.now) c.args.side.now c.args.range.block c.args.range.lo c.args.range.hi c.in-Some-own_code.code c.requires.node.free c.in-Some-own_code.ensures.0 c.in-Some-own_code.ensures.1 in
    let smaller : 6 * (inexact (choices c.args.codes.now) c.args.side.now + room (choices c.args.codes.now) (node_box (choices c.args.codes.now) c.args.side.now c.args.range.block c.in-Some-own_code.code (c.in-Some-own_code.code + 1))) < t = omega arith in (
      smaller,
      (
        within,
        (
          c.requires.tables,
          (
            c.fitted.ensures.served,
            (
              ready_later (choices c.args.codes.now) _ _ _ c.requires.ready c.fitted.ensures.runs,
              (
                node_at (choices c.args.codes.now) _ _ _ _ _ _ c.requires.node c.in-Some-own_code.ensures.0 c.in-Some-own_code.ensures.1,
                subst (λ y. IsView y c.args.side.now (has c.none-needs.result) c.args.range.block c.in_ok-view.view) c.requires.tables (c.in_ok-view.ensures (has c.none-needs.result) c.args.range.block),
              ),
            ),
          ),
        ),
      ),
    )

pub along-settle_segment-requires : goal.along-settle_segment-requires
along-settle_segment-requires g t c κs within =
    let now : 6 * (inexact (choices c.args.codes.now) c.args.side.now + room (choices c.args.codes.now) (node_box (choices c.args.codes.now) c.args.side.now c.args.range.block c.args.range.lo c.args.range.hi)) + 4 ≡ t = c.decreases in
    let smaller : 6 * (inexact (choices c.args.codes.now) c.args.side.now + room (choices c.args.codes.now) (node_box (choices c.args.codes.now) c.args.side.now c.args.range.block c.args.range.lo c.args.range.hi)) + 1 < t = omega arith in
    let low = c.in-Some-own_code.ensures.0 in (
      smaller,
      (
        within,
        (
          c.requires.tables,
          (
            c.settle.ensures.served,
            (
              ready_later (choices c.args.codes.now) _ _ _ c.requires.ready (runs_onto (choices c.args.codes.now) _ _ _ _ c.requires.ready c.fitted.ensures.runs c.settle.ensures.runs),
              (c.requires.node, (record { block = refl; low = omega arith; high = omega arith; part = λ _. inl (omega arith) }, c.settle.ensures.view)),
            ),
          ),
        ),
      ),
    )

pub along-returns-in_err-above-clause-runs : goal.along-returns-in_err-above-clause-runs
along-returns-in_err-above-clause-runs g t c =
    runs_onto (choices c.args.codes.now) _ _ _ _ c.requires.ready (runs_onto (choices c.args.codes.now) _ _ _ _ c.requires.ready c.fitted.ensures.runs c.settle.ensures.runs) c.settle_segment.ensures.runs

pub along-settle_segment-requires-2 : goal.along-settle_segment-requires-2
along-settle_segment-requires-2 g t c κs within =
    let now : 6 * (inexact (choices c.args.codes.now) c.args.side.now + room (choices c.args.codes.now) (node_box (choices c.args.codes.now) c.args.side.now c.args.range.block c.args.range.lo c.args.range.hi)) + 4 ≡ t = c.decreases in
    let smaller : 6 * (inexact (choices c.args.codes.now) c.args.side.now + room (choices c.args.codes.now) (node_box (choices c.args.codes.now) c.args.side.now c.args.range.block c.args.range.lo c.args.range.hi)) + 1 < t = omega arith in
    let high = c.in-Some-own_code.ensures.1 in (
      smaller,
      (
        within,
        (
          c.requires.tables,
          (
            c.settle_segment.ensures.served,
            (
              ready_later (choices c.args.codes.now) _ _ _ c.requires.ready
                  (runs_onto (choices c.args.codes.now) _ _ _ _ c.requires.ready (runs_onto (choices c.args.codes.now) _ _ _ _ c.requires.ready c.fitted.ensures.runs c.settle.ensures.runs) c.settle_segment.ensures.runs),
              (c.requires.node, (record { block = refl; low = omega arith; high = omega arith; part = λ _. inr high }, c.settle_segment.ensures.view)),
            ),
          ),
        ),
      ),
    )

pub along-returns-in_err-below-clause-runs : goal.along-returns-in_err-below-clause-runs
along-returns-in_err-below-clause-runs g t c =
    runs_onto (choices c.args.codes.now) _ _ _ _ c.requires.ready
    (runs_onto (choices c.args.codes.now) _ _ _ _ c.requires.ready (runs_onto (choices c.args.codes.now) _ _ _ _ c.requires.ready c.fitted.ensures.runs c.settle.ensures.runs) c.settle_segment.ensures.runs)
    c.settle_segment-2.ensures.runs

pub along-returns-in_err-cites-clause-runs : goal.along-returns-in_err-cites-clause-runs
along-returns-in_err-cites-clause-runs g t c =
    runs_onto (choices c.args.codes.now) _ _ _ _ c.requires.ready
    (runs_onto (choices c.args.codes.now) _ _ _ _ c.requires.ready (runs_onto (choices c.args.codes.now) _ _ _ _ c.requires.ready c.fitted.ensures.runs c.settle.ensures.runs) c.settle_segment.ensures.runs)
    c.settle_segment-2.ensures.runs

pub along-close-requires-clause-cites : goal.along-close-requires-clause-cites
along-close-requires-clause-cites g t c =
    let ready = ready_later (choices c.args.codes.now) _ _ _ c.requires.ready c.fitted.ensures.runs in
    let (handled, cited) = along_settled (choices c.args.codes.now) _ _ _ _ _ _ _ c.args.side.now _ _ _ _ _ _ _ c.args.range.block c.args.range.lo c.args.range.hi c.in-Some-own_code.code ready.fits
    c.settle.ensures.runs.grows c.settle_segment.ensures.runs.grows c.settle_segment-2.ensures.runs.grows c.settle_segment.ensures.needs c.settle_segment-2.ensures.needs c.in_ok-cites.ensures
    c.in_ok-own.ensures.covered c.in_ok-above.ensures.covered c.in_ok-below.ensures.covered in
    cited.earlier

pub along-returns-clause-runs : goal.along-returns-clause-runs
along-returns-clause-runs g t c =
    let none = match_none _ _ _ c.in_ok-shown.ensures.shown c.in_default.is in
    let ready = ready_later (choices c.args.codes.now) _ _ _ c.requires.ready c.fitted.ensures.runs in
    let runs = runs_onto (choices c.args.codes.now) _ _ _ _ ready (runs_onto (choices c.args.codes.now) _ _ _ _ ready c.settle.ensures.runs c.settle_segment.ensures.runs) c.settle_segment-2.ensures.runs in
    let (handled, cited) = along_settled (choices c.args.codes.now) _ _ _ _ _ _ _ c.args.side.now _ _ _ _ _ _ _ c.args.range.block c.args.range.lo c.args.range.hi c.in-Some-own_code.code ready.fits
    c.settle.ensures.runs.grows c.settle_segment.ensures.runs.grows c.settle_segment-2.ensures.runs.grows c.settle_segment.ensures.needs c.settle_segment-2.ensures.needs c.in_ok-cites.ensures
    c.in_ok-own.ensures.covered c.in_ok-above.ensures.covered c.in_ok-below.ensures.covered in
    runs_onto (choices c.args.codes.now) _ _ _ _ c.requires.ready c.fitted.ensures.runs
    (closed_done (choices c.args.codes.now) _ _ _ _ _ _ _ _ _ _ _ _ _ c.args.range.hi c.close.result ready runs (place_of_node (choices c.args.codes.now) _ _ _ _ _ c.requires.node)
    (asked_own (choices c.args.codes.now) c.args.side.now _ c.requires.node.side_is c.requires.node.clear none) handled (omega arith) cited c.close.ensures).0

pub along-returns-clause-shown : goal.along-returns-clause-shown
along-returns-clause-shown g t c =
    let none = match_none _ _ _ c.in_ok-shown.ensures.shown c.in_default.is in
    let ready = ready_later (choices c.args.codes.now) _ _ _ c.requires.ready c.fitted.ensures.runs in
    let runs = runs_onto (choices c.args.codes.now) _ _ _ _ ready (runs_onto (choices c.args.codes.now) _ _ _ _ ready c.settle.ensures.runs c.settle_segment.ensures.runs) c.settle_segment-2.ensures.runs in
    let (handled, cited) = along_settled (choices c.args.codes.now) _ _ _ _ _ _ _ c.args.side.now _ _ _ _ _ _ _ c.args.range.block c.args.range.lo c.args.range.hi c.in-Some-own_code.code ready.fits
    c.settle.ensures.runs.grows c.settle_segment.ensures.runs.grows c.settle_segment-2.ensures.runs.grows c.settle_segment.ensures.needs c.settle_segment-2.ensures.needs c.in_ok-cites.ensures
    c.in_ok-own.ensures.covered c.in_ok-above.ensures.covered c.in_ok-below.ensures.covered in
    ok_weaker c.close.result _ _ (λ shown h. (h.0, shown_from (choices c.args.codes.now) _ _ _ _ _ _ c.fitted.ensures.runs.grows h.1))
    (closed_done (choices c.args.codes.now) _ _ _ _ _ _ _ _ _ _ _ _ _ c.args.range.hi c.close.result ready runs (place_of_node (choices c.args.codes.now) _ _ _ _ _ c.requires.node)
    (asked_own (choices c.args.codes.now) c.args.side.now _ c.requires.node.side_is c.requires.node.clear none) handled (omega arith) cited c.close.ensures).1

pub settle-returns-in_err-covered-2-clause-runs : goal.settle-returns-in_err-covered-2-clause-runs
settle-returns-in_err-covered-2-clause-runs g t c = runs_onto (choices c.args.codes.now) _ _ _ _ c.requires.ready c.cover_known.ensures.runs c.cover_by_plan.ensures.runs

pub settle-returns-in_default-clause-runs : goal.settle-returns-in_default-clause-runs
settle-returns-in_default-clause-runs g t c = runs_onto (choices c.args.codes.now) _ _ _ _ c.requires.ready c.cover_known.ensures.runs c.cover_by_plan.ensures.runs

pub settle-returns-in_default-clause-covered : goal.settle-returns-in_default-clause-covered
settle-returns-in_default-clause-covered g t c =
    covers_from (choices c.args.codes.now) _ _ _ _ _ _ _ c.in_ok-covered-2.covered c.cover_known.ensures.runs.grows c.in_ok-covered-2.ensures.covered

pub settle-deeper-requires : goal.settle-deeper-requires
settle-deeper-requires g t c κs within =
    let now : 6 * (inexact (choices c.args.codes.now) c.args.side.now + room (choices c.args.codes.now) (node_box (choices c.args.codes.now) c.args.side.now c.args.block c.args.code (c.args.code + 1))) ≡ t = c.decreases in
    let (is, child) = opened (choices c.args.codes.now) c.args.job _ _ c.args.side.now _ c.args.block c.args.code _ c.in-Open.child c.in_ok-covered.ensures.covered c.in-Open.is in
    let fewer = child_inexact (choices c.args.codes.now) c.args.side.now c.in-Open.child c.args.block c.args.code c.requires.node.side_is.ascending c.requires.node.block c.requires.node.free is in
    let no_more = child_room (choices c.args.codes.now) c.args.side.now c.in-Open.child c.args.block c.args.code c.requires.node.free is in
    let smaller : 6 * (inexact (choices c.args.codes.now) c.in-Open.child + room (choices c.args.codes.now) c.in-Open.child) + 5 < t = omega arith in (
      smaller,
      (
        within,
        (
          c.requires.tables,
          (
            c.cover_known.ensures.served,
            (
              ready_later (choices c.args.codes.now) _ _ _ c.requires.ready c.cover_known.ensures.runs,
              (
                child,
                (c.in-Some.ensures.0, c.in-Some.ensures.1),
              ),
            ),
          ),
        ),
      ),
    )

pub settle-returns-in_err-shown-clause-runs : goal.settle-returns-in_err-shown-clause-runs
settle-returns-in_err-shown-clause-runs g t c = runs_onto (choices c.args.codes.now) _ _ _ _ c.requires.ready c.cover_known.ensures.runs c.deeper.ensures.runs

pub settle-returns-clause-runs : goal.settle-returns-clause-runs
settle-returns-clause-runs g t c = runs_onto (choices c.args.codes.now) _ _ _ _ c.requires.ready c.cover_known.ensures.runs c.deeper.ensures.runs

pub settle-returns-clause-covered : goal.settle-returns-clause-covered
settle-returns-clause-covered g t c =
    let (is, child) = opened (choices c.args.codes.now) c.args.job _ _ c.args.side.now _ c.args.block c.args.code _ c.in-Open.child c.in_ok-covered.ensures.covered c.in-Open.is in
    c.cover_by_record-covered.ensures.covered (state (g.B.Bars.bar c.args.bars.now) c.args.best.now c.args.log.now c.args.store.now)
    (state (g.B.Bars.bar c.cover_known.new.bars) c.args.best.now c.args.log.now c.args.store.now)
    (state (g.B.Bars.bar c.deeper.new.bars) c.deeper.new.best c.deeper.new.log c.deeper.new.store) refl
    (ready_later (choices c.args.codes.now) _ _ _ c.requires.ready c.cover_known.ensures.runs) c.requires.node c.cover_known.ensures.runs.grows
    (subst (IsShown (choices c.args.codes.now) (state (g.B.Bars.bar c.cover_known.new.bars) c.args.best.now c.args.log.now c.args.store.now)
    (state (g.B.Bars.bar c.deeper.new.bars) c.deeper.new.best c.deeper.new.log c.deeper.new.store) c.in_ok-shown.shown.tie c.in_ok-shown.shown.number) is c.in_ok-shown.ensures.shown.1)

pub settle-returns-clause-jumped : goal.settle-returns-clause-jumped
settle-returns-clause-jumped g t c = λ jumps k cited.
    let (is, child) = opened (choices c.args.codes.now) c.args.job _ _ c.args.side.now _ c.args.block c.args.code _ c.in-Open.child c.in_ok-covered.ensures.covered c.in-Open.is in
    let same = same_Some c.in_ok-shown.shown.number k (sym (ap (λ (r : Covered). r.cite) c.cover_by_record-covered.ensures.result) ∙ cited) in
    let tie = ap (λ (r : Covered). r.tie) c.cover_by_record-covered.ensures.result in
    subst (λ tie. (k + 1 ≡ length c.deeper.new.log)
    × IsShown (choices c.args.codes.now) (state (g.B.Bars.bar c.args.bars.now) c.args.best.now c.args.log.now c.args.store.now)
    (state (g.B.Bars.bar c.deeper.new.bars) c.deeper.new.best c.deeper.new.log c.deeper.new.store) tie k c.args.side.now) (sym tie)
    (subst (λ k. (k + 1 ≡ length c.deeper.new.log)
    × IsShown (choices c.args.codes.now) (state (g.B.Bars.bar c.args.bars.now) c.args.best.now c.args.log.now c.args.store.now)
    (state (g.B.Bars.bar c.deeper.new.bars) c.deeper.new.best c.deeper.new.log c.deeper.new.store) c.in_ok-shown.shown.tie k c.args.side.now) same (
      c.in_ok-shown.ensures.shown.0,
      jump_shown (choices c.args.codes.now) _ _ _ c.in_ok-shown.shown.tie c.args.side.now c.in-Open.child c.args.block c.args.code c.in_ok-shown.shown.number (exact c.args.block c.args.code) c.records.result.now c.index-records-shown.result
          c.cover_known.ensures.runs.grows refl is c.in_ok-shown.ensures.shown.1 c.records.ensures.value c.index-records-shown.is
          (c.names-named.ensures (flipped c.names-named.result jumps)),
    ))

pub settle_segment-returns-clause-jumped : goal.settle_segment-returns-clause-jumped
settle_segment-returns-clause-jumped g t c = λ jumps k cited.
    let same = same_Some c.in_ok-shown.shown.number k cited in
    subst (λ k. (k + 1 ≡ length c.refute.new.log)
    × IsShown (choices c.args.codes.now) (state (g.B.Bars.bar c.args.bars.now) c.args.best.now c.args.log.now c.args.store.now)
    (state (g.B.Bars.bar c.refute.new.bars) c.refute.new.best c.refute.new.log c.refute.new.store) c.in_ok-shown.shown.tie k c.args.side.now) same (
      c.in_ok-shown.ensures.shown.0,
      part_jumps (choices c.args.codes.now) _ _ c.in_ok-shown.shown.tie c.args.side.now c.in_ok-part.part c.args.segment c.in_ok-shown.shown.number c.records.result.now c.index-records-shown.result
          c.in_ok-part.ensures c.in_ok-shown.ensures.shown.1 c.records.ensures.value c.index-records-shown.is (c.names-named.ensures (flipped c.names-named.result jumps)),
    )

pub divide-returns-in_err-view-clause-runs : goal.divide-returns-in_err-view-clause-runs
divide-returns-in_err-view-clause-runs g t c = runs_self (choices c.args.codes.now) _ _ c.requires.ready

pub divide-order_of-requires-clause-front : goal.divide-order_of-requires-clause-front
divide-order_of-requires-clause-front g t c = (c.in_ok-view.ensures (λ x. true) c.args.range.block).yard_is ∙ c.requires.tables

pub settle-returns-in_err-covered-2-clause-view : goal.settle-returns-in_err-covered-2-clause-view
settle-returns-in_err-covered-2-clause-view g t c =
    view_more c.args.codes.now c.args.side.now (has c.cover_known.new.needs) (has c.cover_by_plan.new.needs) c.args.block c.cover_known.new.view c.cover_by_plan.ensures.needs c.cover_known.ensures.view

pub settle-returns-in_default-clause-view : goal.settle-returns-in_default-clause-view
settle-returns-in_default-clause-view g t c =
    view_more c.args.codes.now c.args.side.now (has c.cover_known.new.needs) (has c.cover_by_plan.new.needs) c.args.block c.cover_known.new.view c.cover_by_plan.ensures.needs c.cover_known.ensures.view

pub settle-returns-clause-view : goal.settle-returns-clause-view
settle-returns-clause-view g t c =
    view_more c.args.codes.now c.args.side.now (has c.cover_known.new.needs) (has c.cover_by_record-covered.new.needs) c.args.block c.cover_known.new.view c.cover_by_record-covered.ensures.needs
    c.cover_known.ensures.view
