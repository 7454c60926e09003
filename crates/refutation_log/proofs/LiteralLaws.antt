-- The literals of a side that has a text are those of a box.
use Rattle.std.proofs.Common.{◌≡◌, ℕ, zero, suc, ◌+◌, ◌<◌, ◌≤◌, List, [], ◌∷◌, Some, arith, ap}
use Rattle.std.specs.Prelude.{slice_get, All}
use Rattle.std.specs.List.{AllByRecursion}
use Rattle.std.proofs.lemmas.List.Elements.{All-from_recursion, All-weaker}
use Rattle.std.proofs.lemmas.Option.{none-some, same_Some}
use Rattle.plan_rule.specs.declared.literal.Literal.{Literal}
use Rattle.plan_rule.specs.Boxes.{IsAscending, AreLiterals}
use Rattle.refutation_log.specs.Citations.{Ascend}
use Rattle.refutation_log.specs.Spelling.{IsLiteral, IsSide}

-- a literal of an ascending list has at least the block that the list begins from
from_least : (n : ℕ) (box : List Literal) → Ascend (λ (l : Literal). l.block) n box → (i : ℕ) (l : Literal) → slice_get box i ≡ Some l → n ≤ l.block
from_least n [] a i l e = absurd (none-some l e)
from_least n (x ∷ xs) a zero l e = let same = ap (λ (m : Literal). m.block) (same_Some x l e) in let h = a.0 in omega arith
from_least n (x ∷ xs) a (suc i) l e = let h = a.0 in let r = from_least (x.block + 1) xs a.1 i l e in omega arith

-- a list that ascends from some number is in ascending order
pub ascending-from : (n : ℕ) (box : List Literal) → Ascend (λ (l : Literal). l.block) n box → IsAscending box
ascending-from n [] a i j l m lt e f = absurd (none-some l e)
ascending-from n (x ∷ xs) a zero zero l m lt e f = absurd (omega arith)
ascending-from n (x ∷ xs) a zero (suc j) l m lt e f =
    let same = ap (λ (k : Literal). k.block) (same_Some x l e) in let r = from_least (x.block + 1) xs a.1 j m f in omega arith
ascending-from n (x ∷ xs) a (suc i) zero l m lt e f = absurd (omega arith)
ascending-from n (x ∷ xs) a (suc i) (suc j) l m lt e f = ascending-from (x.block + 1) xs a.1 i j l m (omega arith) e f

pub literals-from_side : (box : List Literal) → IsSide box → AreLiterals box
literals-from_side box side = record {
  ascending = ascending-from 0 box side.0;
  some = All-weaker IsLiteral (λ (l : Literal). l.lo < l.hi) (λ l h. h.span) box (All-from_recursion IsLiteral box side.1);
}
