-- Bytes that are read or said in pieces.
use Rattle.std.proofs.Common.{◌≡◌, ℕ, ◌+◌, ◌-◌, List, ◌++◌, length, take, drop, [], true, false, Bool, cond, Option, Some, None, refl, ap, sym, ◌∙◌, arith, append_assoc}
use Rattle.std.proofs.Math.Seq.{take-add}
use Rattle.std.proofs.lemmas.Grind.{common_steps}
use Rattle.std.specs.Option.{unwrap_or}
use Rattle.std.specs.Str.{bytes_eq}
use Rattle.std.proofs.lemmas.Slice.Eq.{bytes_eq-Decides}
use Rattle.yard_io.specs.Desk.{then_said, Files, Sets}

pub pieces : (bytes : List ℕ) (d n : ℕ) → take d bytes ++ take n (drop d bytes) ≡ take (d + n) bytes
pieces bytes d n = sym (take-add d n bytes)

pub said_more : (s : Option (List ℕ)) (bytes : List ℕ) (d n : ℕ) → then_said (then_said s (take d bytes)) (take n (drop d bytes)) ≡ then_said s (take (d + n) bytes)
said_more None bytes d n = refl
said_more (Some s) bytes d n = ap Some (append_assoc s (take d bytes) (take n (drop d bytes)) ∙ ap (λ t. s ++ t) (pieces bytes d n))

-- the slice `&bytes[d..]`
rest : (bytes : List ℕ) (d : ℕ) → take (length bytes - d) (drop d bytes) ≡ drop d bytes
rest bytes d = grind (arith, common_steps)

pub said_rest : (s t : Option (List ℕ)) (bytes : List ℕ) (d n : ℕ) → s ≡ then_said t (take d bytes)
    → then_said s (take n (take (length bytes - d) (drop d bytes))) ≡ then_said t (take (d + n) bytes)
said_rest s t bytes d n e = rw (rest bytes d, e) (said_more t bytes d n)

grows : (b tells : Bool) (x y z m : Option (List ℕ)) (p q r : List ℕ) → y ≡ cond b (cond tells (Some p) None) x → m ≡ cond tells (Some p) None
    → z ≡ cond b (cond tells (Some (unwrap_or m [] ++ q)) None) y → p ++ q ≡ r → z ≡ cond b (cond tells (Some r) None) x
grows true true x y z m p q r before here after whole = after ∙ ap Some (ap (λ t. unwrap_or t [] ++ q) here ∙ whole)
grows true false x y z m p q r before here after whole = after
grows false tells x y z m p q r before here after whole = after ∙ before

-- a file that grows by one more piece
pub sets_more : (tells : Bool) (old mid new : Files) (name bytes : List ℕ) (d n : ℕ)
    → Sets tells old mid name (take d bytes) → Sets tells mid new name (unwrap_or (mid name) [] ++ take n (take (length bytes - d) (drop d bytes)))
    → Sets tells old new name (take (d + n) bytes)
sets_more tells old mid new name bytes d n before after = λ k.
    let own : bytes_eq name name ≡ true = (bytes_eq-Decides name name).1 refl in
    grows (bytes_eq name k) tells (old k) (mid k) (new k) (mid name) (take d bytes) _ (take (d + n) bytes)
    (before k) (rw own at (before name)) (after k) (rw (rest bytes d) (pieces bytes d n))
