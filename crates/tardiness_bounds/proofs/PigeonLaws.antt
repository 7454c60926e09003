-- Of n blocks no more than n stand.
use Rattle.std.proofs.Common.{◌≡◌, ◌≢◌, ℕ, zero, suc, ◌<◌, ◌≤◌, List, [], ◌∷◌, ◌++◌, length, take, map, Some, refl, sym, ap, ◌∙◌, subst, inl, inr, arith, length-append}
use Rattle.std.specs.Prelude.{slice_get, All, ◌==◌, if◌then◌else◌}
use Rattle.std.proofs.lemmas.Bool.{cases_Bool, eqb-true, eq-eqb, true≢false}
use Rattle.std.proofs.lemmas.Option.{slice_get_within, get_or_from_slice_get}
use Rattle.std.proofs.lemmas.List.Elements.{All-head, All-tail}
use Rattle.common_lists.proofs.ListLaws.{only_element, take_before}
use Rattle.shape_exact.specs.Yards.{PlainYard}
use Rattle.common_lists.proofs.EachLaws.{get-append_cases}
use Rattle.plan_rule.specs.declared.literal.Literal.{Literal}
use Rattle.plan_rule.specs.Boxes.{LeavesFree, exact}
use Rattle.tardiness_bounds.specs.declared.standing.Standing.{Standing}
use Rattle.tardiness_bounds.specs.Standings.{StandOnce, IsStanding, literals_of}
use Rattle.tardiness_bounds.proofs.StackLaws.{take_whole}

-- each number of a list is so
Each : (ℕ → Type 0) → List ℕ → Type 0
Each P [] = Unit {0}
Each P (b ∷ bs) = P b × Each P bs

-- no number stands twice
Once : List ℕ → Type 0
Once [] = Unit {0}
Once (b ∷ bs) = Each (λ c. c ≢ b) bs × Once bs

-- the list without the first place of a number
without : ℕ → List ℕ → List ℕ
without n [] = []
without n (b ∷ bs) = if b == n then bs else b ∷ without n bs

without_long : (n : ℕ) (bs : List ℕ) → length bs ≤ suc (length (without n bs))
unfolding without
without_long n [] = omega arith
without_long n (b ∷ bs) = elim (cases_Bool (b == n)) [
  | inl on ↦ subst (λ t. suc (length bs) ≤ suc (length (if t then bs else b ∷ without n bs))) (sym on) (omega arith)
  | inr off ↦ subst (λ t. suc (length bs) ≤ suc (length (if t then bs else b ∷ without n bs))) (sym off) (let h = without_long n bs in omega arith)
]

without_each : (P : ℕ → Type 0) (n : ℕ) (bs : List ℕ) → Each P bs → Each P (without n bs)
unfolding without Each
without_each P n [] h = h
without_each P n (b ∷ bs) h = elim (cases_Bool (b == n)) [
  | inl on ↦ subst (λ t. Each P (if t then bs else b ∷ without n bs)) (sym on) h.1
  | inr off ↦ subst (λ t. Each P (if t then bs else b ∷ without n bs)) (sym off) (h.0, without_each P n bs h.1)
]

without_once : (n : ℕ) (bs : List ℕ) → Once bs → Once (without n bs)
unfolding without Once
without_once n [] h = h
without_once n (b ∷ bs) h = elim (cases_Bool (b == n)) [
  | inl on ↦ subst (λ t. Once (if t then bs else b ∷ without n bs)) (sym on) h.1
  | inr off ↦ subst (λ t. Once (if t then bs else b ∷ without n bs)) (sym off) (without_each (λ c. c ≢ b) n bs h.0, without_once n bs h.1)
]

below_each : (n : ℕ) (bs : List ℕ) → Each (λ b. b < suc n) bs → Each (λ b. b ≢ n) bs → Each (λ b. b < n) bs
unfolding Each
below_each n [] h k = h
below_each n (b ∷ bs) h k = ((let l = h.0 in let d : b ≡ n → ⊥ = k.0 in less n b l d), below_each n bs h.1 k.1)
  where
    less : (n b : ℕ) → b < suc n → (b ≡ n → ⊥) → b < n
    less n b l d = omega arith

without_below : (n : ℕ) (bs : List ℕ) → Each (λ b. b < suc n) bs → Once bs → Each (λ b. b < n) (without n bs)
unfolding without Each Once
without_below n [] h o = h
without_below n (b ∷ bs) h o = elim (cases_Bool (b == n)) [
  | inl on ↦
      let e : b ≡ n = eqb-true b n on in
      subst (λ t. Each (λ b. b < n) (if t then bs else b ∷ without n bs)) (sym on)
      (below_each n bs h.1 (subst (λ b. Each (λ c. c ≢ b) bs) e o.0))
  | inr off ↦
      let d : b ≡ n → ⊥ = λ e. true≢false (sym (eq-eqb b n e) ∙ off) in
      subst (λ t. Each (λ b. b < n) (if t then bs else b ∷ without n bs)) (sym off) ((let l = h.0 in less n b l d), without_below n bs h.1 o.1)
]
  where
    less : (n b : ℕ) → b < suc n → (b ≡ n → ⊥) → b < n
    less n b l d = omega arith

pigeon : (n : ℕ) (bs : List ℕ) → Each (λ b. b < n) bs → Once bs → length bs ≤ n
unfolding Each
pigeon zero [] h o = omega arith
pigeon zero (b ∷ bs) h o = (let l = h.0 in absurd (omega arith))
pigeon (suc n) bs h o =
    let rest = pigeon n (without n bs) (without_below n bs h o) (without_once n bs o) in
    let long = without_long n bs in
    omega arith

blocks_of : List Standing → List ℕ
blocks_of list = map (λ f. f.block) list

blocks_length : (list : List Standing) → length (blocks_of list) ≡ length list
unfolding blocks_of
blocks_length [] = refl
blocks_length (f ∷ list) = ap suc (blocks_length list)

each_at : (P : ℕ → Type 0) (list : List Standing) → ((k : ℕ) (f : Standing) → slice_get list k ≡ Some f → P f.block) → Each P (blocks_of list)
unfolding Each blocks_of
each_at P [] h = tt
each_at P (f ∷ list) h = (h 0 f refl, each_at P list (λ k g at. h (suc k) g at))

once_of : (list : List Standing) → StandOnce list → Once (blocks_of list)
unfolding Once blocks_of
once_of [] once = tt
once_of (f ∷ list) once = (
  each_at (λ c. c ≢ f.block) list (λ k g at e. All-head (λ (l : Literal). l.block ≢ g.block) (exact f.block f.code) (literals_of (take k list)) (once (suc k) g at) (sym e)),
  once_of list (λ k g at. All-tail (λ (l : Literal). l.block ≢ g.block) (exact f.block f.code) (literals_of (take k list)) (once (suc k) g at)),
)

-- no more blocks stand than there are
pub few_stand : (n : ℕ) (list : List Standing) → ((k : ℕ) (f : Standing) → slice_get list k ≡ Some f → f.block < n) → StandOnce list → length list ≤ n
few_stand n list below once =
    let h = pigeon n (blocks_of list) (each_at (λ b. b < n) list below) (once_of list once) in
    let l = blocks_length list in
    omega arith

-- one block more, which none of the list is
pub once_more : (list more : List Standing) (new : Standing) → StandOnce list → LeavesFree (literals_of list) new.block → more ≡ list ++ new ∷ [] → StandOnce more
once_more list more new once free is k f at = elim (get-append_cases list (new ∷ []) k f (ap (λ fs. slice_get fs k) (sym is) ∙ at)) [
  | inl front ↦
      let l = slice_get_within list k f front in
      subst (λ fs. LeavesFree (literals_of fs) f.block) (sym (take_before list (new ∷ []) k (omega arith)) ∙ ap (take k) (sym is)) (once k f front)
  | inr back ↦
      let (m, last, where_is) = back in
      let (first, same) = only_element new f m last in
      let e : length list ≡ k = omega arith in
      subst (λ (f : Standing). LeavesFree (literals_of (take k more)) f.block) same
      (subst (λ fs. LeavesFree (literals_of fs) new.block)
      (sym (take_whole list) ∙ ap (λ k. take k list) e ∙ sym (take_before list (new ∷ []) k (omega arith)) ∙ ap (take k) (sym is)) free)
]

-- where a block does not stand, fewer blocks stand than there are
pub room_left : (yard : PlainYard) (list : List Standing) (b : ℕ) → All (IsStanding yard) list → StandOnce list → LeavesFree (literals_of list) b
    → b < length yard.blocks → length list < length yard.blocks
room_left yard list b stand once free l =
    let new : Standing = record { block = b; code = 0; place = record { start = 0; end = 0; plate = 0; turn = 0; y = 0; x = 0 } } in
    let most = few_stand (length yard.blocks) (list ++ new ∷ []) (below yard list new stand l) (once_more list (list ++ new ∷ []) new once free refl) in
    let long = length-append list (new ∷ []) in
    omega arith
  where
    below : (yard : PlainYard) (list : List Standing) (new : Standing) → All (IsStanding yard) list → new.block < length yard.blocks
        → (k : ℕ) (f : Standing) → slice_get (list ++ new ∷ []) k ≡ Some f → f.block < length yard.blocks
    below yard list new stand l k f at = elim (get-append_cases list (new ∷ []) k f at) [
      | inl front ↦
          let s : IsStanding yard f = subst (IsStanding yard) (get_or_from_slice_get list k f f front) (stand k f (slice_get_within list k f front)) in
          s.block
      | inr back ↦
          let (m, last, where_is) = back in
          let (first, same) = only_element new f m last in
          subst (λ (f : Standing). f.block < length yard.blocks) same l
    ]
