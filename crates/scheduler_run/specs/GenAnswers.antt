-- What `gen` says.
use Rattle.std.specs.Prelude.{◌≡◌, ℕ, None}
use Rattle.yard_generator.specs.Texts.{yard_text}
use Rattle.scheduler_run.specs.Outcomes.{Outcome}

-- the yard that is drawn from the seed, with so many blocks, is said with status 0
abbrev pub SaysYard : ℕ → ℕ → Outcome → Type 0
SaysYard seed blocks outcome =
    (outcome.status ≡ 0) × (outcome.made ≡ None) × (outcome.said ≡ yard_text seed blocks)
