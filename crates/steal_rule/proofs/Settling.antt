-- The owner takes in reaches, one after another.
use Rattle.std.proofs.Common.{◌≡◌, ◌+◌, ℕ, true, All, List}
use Rattle.std.specs.List.{sum_by}
use Rattle.atomic_table.specs.Seated.{TableId}
use Rattle.plan_rule.specs.declared.job.Job.{Job}
use Rattle.steal_rule.specs.declared.rule.View.{View}
use Rattle.steal_rule.specs.Rule.{weight_taken}
use Rattle.steal_rule.specs.Deques.{Reaching, weight_stolen}

-- the owner's view was `first` and is `now`, with the reaches `left` of `all` still to be taken in: it pushed and found
-- gone what it had, the parts are 16, and what it has taken in and what is left weigh what they weighed at first
pub record IsSettling (deque : TableId) (first now : View) (all left : List Reaching) : Type 0 where
  pub live : now.live ≡ true
  pub owns : now.owns ≡ true
  pub pushed : now.pushed ≡ first.pushed
  pub gone : now.gone ≡ first.gone
  pub same : All (λ (r : Reaching). r.deque ≡ deque) left
  pub parts : now.parts + sum_by (λ (r : Reaching). r.parts) left ≡ 16
  pub weighed : (h : Job → ℕ) → weight_taken h now + weight_stolen h left ≡ weight_taken h first + weight_stolen h all
