use Rattle.std.proofs.Common.{◌≡◌, List, length, take, ◌++◌, append-nil, sym, subst, ap, ◌∙◌, arith, rules}
use Rattle.std.specs.List.{refill}
use Rattle.std.specs.List.Sorted.{IsSortedBy}
use Rattle.std.proofs.lemmas.Fn.{always_returns_same}
use Rattle.std.proofs.lemmas.List.{take_all, drop_all}
use Rattle.minkowski_obstacles.specs.declared.side.Side.{Side}
use Rattle.minkowski_obstacles.specs.Merged.{comes_before}
use Rattle.minkowski_obstacles.proofs.DirectionLaws.{by_turn}
use Rattle.minkowski_obstacles.proofs.sides.order.Goals as goal

-- as many elements in place of all are those elements
refilled : (xs ws : List Side) → length ws ≡ length xs → refill (length xs) xs ws ≡ ws
refilled xs ws e =
    ap (λ (t : List Side). take (length xs) (ws ++ t)) (drop_all (length ws) xs (omega arith))
    ∙ ap (λ (t : List Side). take (length xs) t) (append-nil ws)
    ∙ take_all (length xs) ws (omega arith)

pub returns-clause-sorted : goal.returns-clause-sorted
returns-clause-sorted c =
    let sorted = c.sort_unstable_by.ensures.sorted (λ (s t : Side). comes_before s.along t.along) by_turn (always_returns_same _ _ _ (λ a r f k. search rules)) in
    let l : length c.sort_unstable_by.new.self ≡ length c.args.sides.now.items = search rules in
    subst (λ (xs : List Side). IsSortedBy (λ a b. comes_before a.along b.along) xs) (sym (refilled c.args.sides.now.items c.sort_unstable_by.new.self l)) sorted
