-- What a code comes to beside blocks that stand, in the words of a box.
use Rattle.std.proofs.Common.{◌≡◌, ℕ, ◌<◌, List, length, get_or, Option, Some, None, refl, sym, ◌∙◌, subst}
use Rattle.std.specs.Prelude.{All, MatchOption, slice_get}
use Rattle.std.proofs.lemmas.Option.{same_Some, slice_get-get_or, slice_get_within, get_or_from_slice_get}
use Rattle.shape_exact.specs.Yards.{PlainYard}
use Rattle.code_table.specs.declared.placement.Placement.{Placement}
use Rattle.code_table.specs.Placements.{placements}
use Rattle.plan_rule.specs.Boxes.{HasExact, LeavesFree}
use Rattle.plan_rule.specs.Choices.{IsCode}
use Rattle.plan_rule.specs.Yards.{choices}
use Rattle.tardiness_bounds.specs.declared.beside.Hindrance.{Hindrance}
use Rattle.tardiness_bounds.specs.declared.beside.Hindrance.TheVariants.{Clash, Piece}
use Rattle.tardiness_bounds.specs.declared.standing.Standing.{Standing}
use Rattle.tardiness_bounds.specs.Besides.{ClashesBeside, IsHindered, IsHinderedAt}
use Rattle.tardiness_bounds.specs.Standings.{ClashesAt, IsClear, IsStanding, StandOnce, literals_of}
use Rattle.tardiness_bounds.proofs.FitLaws.{at_clash, clear_code_fits, exact_at, meets_code}

-- what hinders a code's placement hinders the code
pub hindered_code : (yard : PlainYard) (list : List Standing) (b code : ℕ) (p : Placement) (h : Option Hindrance) → All (IsStanding yard) list → StandOnce list
    → IsCode (choices yard) b code → LeavesFree (literals_of list) b → slice_get (placements yard b) code ≡ Some p → IsHinderedAt yard list b p h
    → IsHindered (choices yard) (literals_of list) b code h
hindered_code yard list b code p None stand once is free at clear =
    clear_code_fits yard list b code stand is free (λ q here. subst (IsClear yard list b) (same_Some p q (sym at ∙ here)) clear)
hindered_code yard list b code p (Some (Clash a)) stand once is free at (k, f, here, e, clash) =
    let s : IsStanding yard f = subst (IsStanding yard) (get_or_from_slice_get list k f f here) (stand k f (slice_get_within list k f here)) in (
      f.code,
      subst (λ a. HasExact (literals_of list) a f.code) e (exact_at list k f once here),
      subst (λ a. (choices yard).Clash a f.code b code) e (at_clash yard f b code p s at clash),
    )
hindered_code yard list b code p (Some Piece) stand once is free at (i, m) = (i, meets_code yard b code i p at m)

-- what was found stays found, and where nothing was found something more may be said
pub found_stays : (A B : Type 0) (F : ℕ → Type 0) (found next : Option ℕ) → next ≡ found → (found ≡ None → A → B) → MatchOption found A F → MatchOption next B F
found_stays A B F None next e more h = subst (λ o. MatchOption o B F) (sym e) (more refl h)
found_stays A B F (Some x) next e more h = subst (λ o. MatchOption o B F) (sym e) h

-- one that stands at a place of the list clashes
pub clash_found : (yard : PlainYard) (list : List Standing) (b : ℕ) (p : Placement) (k : ℕ) (d : Standing) → k < length list → ClashesAt yard (get_or list k d) b p
    → ClashesBeside yard list b p (get_or list k d).block
clash_found yard list b p k d within clash = (k, get_or list k d, slice_get-get_or list k d within, refl, clash)
