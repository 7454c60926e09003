-- What a run makes and says, and how much of it was written.
use Rattle.std.specs.Prelude.{◌≡◌, ◌≢◌, ℕ, Bool, List, Option, Some, None, IfSome, option_map, ◌⊎◌}
use Rattle.yard_io.specs.Desk.{Files, SameFiles, Sets, MadeFront, SaidFront, then_said}
use Rattle.scheduler_run.specs.declared.reply.Made.{Made}
use Rattle.scheduler_run.specs.declared.reply.Reply.{Reply}

-- a file with its bytes
pub record Text : Type 0 where
  pub name : List ℕ
  pub bytes : List ℕ

-- the file that a run makes, if it makes one, what it says, and its status
pub record Outcome : Type 0 where
  pub status : ℕ
  pub made : Option Text
  pub said : List ℕ

-- the outcome of a reply
abbrev pub text_of : Made → Text
text_of made = record { name = made.name.now; bytes = made.bytes.items }

abbrev pub outcome_of : Reply → Outcome
outcome_of reply = record { status = reply.status; made = option_map text_of reply.made; said = reply.said.items }

-- the file was made and no other file changed; without one all files are as they were
abbrev pub Makes : Bool → Files → Files → Option Text → Type 0
Makes tells old new None = SameFiles old new
Makes tells old new (Some text) = Sets tells old new text.name text.bytes

-- the files are as they were, or a front of the file was made and no other file changed
abbrev pub MakesFront : Bool → Files → Files → Option Text → Type 0
MakesFront tells old new None = SameFiles old new
MakesFront tells old new (Some text) = MadeFront tells old new text.name text.bytes

-- the file was made, and then all was said
pub record Wrote (tells : Bool) (outcome : Outcome) (old_file new_file : Files) (old_said new_said : Option (List ℕ)) : Type 0 where
  pub made : Makes tells old_file new_file outcome.made
  pub said : new_said ≡ then_said old_said outcome.said

-- a front of the file was made and nothing said
pub record WroteLess (tells : Bool) (outcome : Outcome) (old_file new_file : Files) (old_said new_said : Option (List ℕ)) : Type 0 where
  pub made : MakesFront tells old_file new_file outcome.made
  pub said : new_said ≡ old_said

-- the file was made, and then a front was said
pub record WroteMore (tells : Bool) (outcome : Outcome) (old_file new_file : Files) (old_said new_said : Option (List ℕ)) : Type 0 where
  pub made : Makes tells old_file new_file outcome.made
  pub said : SaidFront old_said new_said outcome.said

-- a front of the file and then of what is said was written, in this order
abbrev pub WroteFront : Bool → Outcome → Files → Files → Option (List ℕ) → Option (List ℕ) → Type 0
WroteFront tells outcome old_file new_file old_said new_said =
    WroteLess tells outcome old_file new_file old_said new_said
    ⊎ WroteMore tells outcome old_file new_file old_said new_said

-- each file but the made one is as it was
abbrev pub KeepsBut : Option Text → Files → Files → Type 0
KeepsBut made old new = (name : List ℕ) → IfSome made (λ text. text.name ≢ name) → new name ≡ old name
