use Rattle.std.proofs.Common.{ℕ, Vec, Global, Option, ap, subst, sym}
use Rattle.std.specs.Prelude.{IfSome}
use Rattle.refutation_log.specs.Logs.{PlainCapsule}
use Rattle.std.proofs.lemmas.List.Sorted.{IsNonDecreasingBy-from_sort}
use Rattle.log_parts.specs.Picked.{AreCopied, IsClosedUnder, IsDerivation, Rises}
use Rattle.log_parts.proofs.PartLaws.{closed_permuted, derived}
use Rattle.log_parts.proofs.cut.derivation.Goals as goal

pub copies-requires-clause-rises : goal.copies-requires-clause-rises
copies-requires-clause-rises c =
    subst Rises (sym c.as_slice.ensures.value) (λ i j l m. IsNonDecreasingBy-from_sort (λ x. x) c.sort_unstable.new.self.items c.sort_unstable.ensures.sorted i j 0 l m)

pub copies-requires-clause-closed : goal.copies-requires-clause-closed
copies-requires-clause-closed c =
    subst (IsClosedUnder c.args.log.now c.args.last) (sym c.as_slice.ensures.value)
    (closed_permuted _ _ c.in-Some.picked.items _ c.sort_unstable.ensures.permutation (subst (λ (o : Option (Vec ℕ Global)). IfSome o (λ (p : Vec ℕ Global). IsClosedUnder c.args.log.now c.args.last p.items)) c.in-Some.is c.in_ok-picked.ensures))

pub returns-in-Ok : goal.returns-in-Ok
returns-in-Ok c =
    let rises : Rises c.as_slice.result.now =
    subst Rises (sym c.as_slice.ensures.value) (λ i j l m. IsNonDecreasingBy-from_sort (λ x. x) c.sort_unstable.new.self.items c.sort_unstable.ensures.sorted i j 0 l m) in
    let closed : IsClosedUnder c.args.log.now c.args.last c.as_slice.result.now =
    subst (IsClosedUnder c.args.log.now c.args.last) (sym c.as_slice.ensures.value)
    (closed_permuted _ _ c.in-Some.picked.items _ c.sort_unstable.ensures.permutation (subst (λ (o : Option (Vec ℕ Global)). IfSome o (λ (p : Vec ℕ Global). IsClosedUnder c.args.log.now c.args.last p.items)) c.in-Some.is c.in_ok-picked.ensures)) in (
      ap (λ (x : PlainCapsule). x.bar) c.in-Ok.ensures.value,
      subst (IsDerivation c.args.log.now c.args.last) (sym (ap (λ (x : PlainCapsule). x.log) c.in-Ok.ensures.value))
          (derived c.args.log.now c.in_ok-part.part c.args.last c.as_slice.result.now rises closed c.in_ok-part.ensures),
    )
