-- What is written of an outcome.
use Rattle.std.proofs.Common.{◌≡◌, ◌≢◌, ℕ, Bool, true, false, cond, List, take, Option, Some, None, Result, Ok, Err, ◌⊎◌, inl, inr, refl, ◌∙◌, ap, subst}
use Rattle.std.specs.Prelude.{IfSome, OnOk, OnErr}
use Rattle.std.specs.Str.{bytes_eq}
use Rattle.std.proofs.lemmas.Slice.Eq.{bytes_eq-Decides}
use Rattle.yard_io.specs.Desk.{Files, Same, SameFiles, Sets, MadeFront, SaidFront, then_said}
use Rattle.yard_io.specs.declared.trouble.Trouble.{Trouble}
use Rattle.scheduler_run.specs.Outcomes.{Text, Outcome, Makes, MakesFront, Wrote, WroteFront, KeepsBut}
use Rattle.scheduler_run.specs.Answers.{Answers, GivesAnswer, GivesFront}

other : (b : Bool) (x y : Option (List ℕ)) → b ≢ true → cond b x y ≡ y
other true x y differs = absurd (differs refl)
other false x y differs = refl

-- making a file changes no other file
pub sets_keeps : (tells : Bool) (old new : Files) (name bytes : List ℕ) → Sets tells old new name bytes
    → (k : List ℕ) → name ≢ k → new k ≡ old k
sets_keeps tells old new name bytes sets k differ =
    sets k ∙ other (bytes_eq name k) (cond tells (Some bytes) None) (old k) (λ same. differ ((bytes_eq-Decides name k).0 same))

-- nor does making a front of it
pub front_keeps : (tells : Bool) (old new : Files) (name bytes : List ℕ) → MadeFront tells old new name bytes
    → (k : List ℕ) → name ≢ k → new k ≡ old k
front_keeps tells old new name bytes (inl same) k differ = same k
front_keeps tells old new name bytes (inr it) k differ = sets_keeps tells old new name (take it.0 bytes) it.2 k differ

-- a call that makes a file or a front of it changes no other file
pub written_keeps : (result : Result (Unit {0}) Trouble) (tells : Bool) (old new : Files) (name bytes : List ℕ)
    → OnOk result (Sets tells old new name bytes) → OnErr result (MadeFront tells old new name bytes)
    → (k : List ℕ) → name ≢ k → new k ≡ old k
written_keeps (Ok done) tells old new name bytes whole front = sets_keeps tells old new name bytes whole
written_keeps (Err trouble) tells old new name bytes whole front = front_keeps tells old new name bytes front

-- what a call makes of the files after a call that kept them, it makes of the files before that
makes_before : (tells : Bool) (old mid new : Files) (made : Option Text) → SameFiles old mid → Makes tells mid new made → Makes tells old new made
makes_before tells old mid new None same makes = λ k. makes k ∙ same k
makes_before tells old mid new (Some text) same makes = λ k.
    makes k ∙ ap (λ file. cond (bytes_eq text.name k) (cond tells (Some text.bytes) None) file) (same k)

front_before : (tells : Bool) (old mid new : Files) (made : Option Text) → SameFiles old mid → MakesFront tells mid new made → MakesFront tells old new made
front_before tells old mid new None same makes = λ k. makes k ∙ same k
front_before tells old mid new (Some text) same (inl kept) = inl (λ k. kept k ∙ same k)
front_before tells old mid new (Some text) same (inr it) =
    inr (it.0, it.1, λ k. it.2 k ∙ ap (λ file. cond (bytes_eq text.name k) (cond tells (Some (take it.0 text.bytes)) None) file) (same k))

wrote_before : (tells : Bool) (outcome : Outcome) (old mid new : Files) (old_said mid_said new_said : Option (List ℕ))
    → Same old old_said mid mid_said → Wrote tells outcome mid new mid_said new_said → Wrote tells outcome old new old_said new_said
wrote_before tells outcome old mid new old_said mid_said new_said same wrote = record {
  made = makes_before tells old mid new outcome.made same.files wrote.made;
  said = subst (λ said. new_said ≡ then_said said outcome.said) same.said wrote.said;
}

wrote_front_before : (tells : Bool) (outcome : Outcome) (old mid new : Files) (old_said mid_said new_said : Option (List ℕ))
    → Same old old_said mid mid_said → WroteFront tells outcome mid new mid_said new_said → WroteFront tells outcome old new old_said new_said
wrote_front_before tells outcome old mid new old_said mid_said new_said same (inl less) = inl (record {
  made = front_before tells old mid new outcome.made same.files less.made;
  said = less.said ∙ same.said;
})
wrote_front_before tells outcome old mid new old_said mid_said new_said same (inr more) = inr (record {
  made = makes_before tells old mid new outcome.made same.files more.made;
  said = subst (λ said. SaidFront said new_said outcome.said) same.said more.said;
})

-- an answer that was made before anything was written, and was then written whole
pub gives_answer : (words : List (List ℕ)) (tells later : Bool) (outcome : Outcome) (status : ℕ)
    (old mid new : Files) (old_said mid_said new_said : Option (List ℕ)) → Answers words old outcome → status ≡ outcome.status
    → Same old old_said mid mid_said → later ≡ tells → Wrote later outcome mid new mid_said new_said
    → GivesAnswer words tells status old new old_said new_said
gives_answer words tells later outcome status old mid new old_said mid_said new_said answer is same told wrote = record {
  outcome = outcome;
  answer = answer;
  status_is = is;
  wrote = wrote_before tells outcome old mid new old_said mid_said new_said same
      (subst (λ t. Wrote t outcome mid new mid_said new_said) told wrote);
}

-- or a front of it
pub gives_front : (words : List (List ℕ)) (tells later : Bool) (outcome : Outcome)
    (old mid new : Files) (old_said mid_said new_said : Option (List ℕ)) → Answers words old outcome
    → Same old old_said mid mid_said → later ≡ tells → WroteFront later outcome mid new mid_said new_said
    → GivesFront words tells old new old_said new_said
gives_front words tells later outcome old mid new old_said mid_said new_said answer same told wrote = inr (record {
  outcome = outcome;
  answer = answer;
  wrote = wrote_front_before tells outcome old mid new old_said mid_said new_said same
      (subst (λ t. WroteFront t outcome mid new mid_said new_said) told wrote);
})

-- files that were kept before are kept
pub keeps_before : (old mid new : Files) (made : Option Text) → SameFiles old mid → KeepsBut made mid new → KeepsBut made old new
keeps_before old mid new made same keeps k differ = keeps k differ ∙ same k

-- an outcome that makes this file keeps the files that making it keeps
pub made_keeps : (made : Option Text) (text : Text) (old new : Files) → made ≡ Some text
    → ((k : List ℕ) → text.name ≢ k → new k ≡ old k) → KeepsBut made old new
made_keeps made text old new is keeps k differ = keeps k (subst (λ m. IfSome m (λ (t : Text). t.name ≢ k)) is differ)
