use Rattle.std.proofs.Common.{◌≡◌, ◌+◌, ◌-◌, ◌<◌, ◌^◌, refl, subst, arith}
use Rattle.plan_rule.specs.Jobs.{IsJob, lower, upper}
use Rattle.plan_rule.proofs.JobLaws.{halves_are, step-is}
use Rattle.plan_rule.proofs.job.halves.Goals as goal

pub overflow_add-upper : goal.overflow_add-upper
overflow_add-upper c =
    let short : c.args.job.length < 32 = let l = c.requires.length in omega arith in
    let step = step-is c.args.job.length c.from.result c.pow.result c.from.ensures c.pow.ensures in
    let bits : c.args.job.front + 2 ^ (31 - c.args.job.length) < 2 ^ 32 = (halves_are c.args.job short c.requires).1.bits in
    omega arith

pub returns : goal.returns
returns c =
    let short : c.args.job.length < 32 = let l = c.requires.length in omega arith in
    let step = step-is c.args.job.length c.from.result c.pow.result c.from.ensures c.pow.ensures in
    let both = halves_are c.args.job short c.requires in
    subst (λ w. (c.args.job.length < 32)
    × (lower c.args.job ≡ lower c.args.job)
    × (record { front = c.args.job.front + w; length = c.args.job.length + 1 } ≡ upper c.args.job)
    × IsJob (lower c.args.job)
    × IsJob (record { front = c.args.job.front + w; length = c.args.job.length + 1 }))
    step (short, refl, refl, both.0, both.1)
