-- The steps of a whole search: the front of a region, its one record, and the report.
use Rattle.std.proofs.Common.{◌≡◌, ◌≢◌, ℕ, zero, suc, ◌+◌, ◌^◌, ◌<◌, ◌≤◌, List, [], ◌∷◌, ◌++◌, length, get_or, take, Option, Some, None, ◌⊎◌, refl, sym, ap, ◌∙◌, subst, inl, inr, arith, Bool, true, false}
use Rattle.std.specs.Prelude.{◌&&◌, ◌==◌, if◌then◌else◌}
use Rattle.std.specs.List.{Contains}
use Rattle.std.proofs.lemmas.Bool.{cases_lt, eqb-true, eq-eqb, ne_eqb, true≢false}
use Rattle.std.proofs.lemmas.List.{get_or-take}
use Rattle.std.proofs.lemmas.List.Elements.{All-contains, All-weaker, Contains-append_left, Contains-append_right}
use Rattle.std.proofs.lemmas.Option.{none-some, same_Some}
use Rattle.plan_rule.specs.declared.literal.Literal.{Literal}
use Rattle.plan_rule.specs.declared.job.Job.{Job}
use Rattle.plan_rule.specs.Choices.{Choices, blocks, count}
use Rattle.plan_rule.specs.Plans.{code_of, IsFeasible, IsBefore}
use Rattle.plan_rule.specs.Boxes.{IsBox, IsLiteral, Holds, LeavesFree, Covers, exact, with_literal}
use Rattle.plan_rule.specs.Paths.{key, IsInRegion}
use Rattle.plan_rule.specs.Regions.{IsRegionPart}
use Rattle.plan_rule.proofs.OnePartLaws.{one_part}
use Rattle.plan_rule.specs.RegionBoxes.{exact_literals, range_literal, region_box}
use Rattle.plan_rule.specs.Reports.{IsBar, IsReached, IsLeast}
use Rattle.plan_rule.proofs.BoxLaws.{HoldsCode, held_with, held_without}
use Rattle.plan_rule.proofs.WithLaws.{with_self}
use Rattle.refutation_log.specs.declared.record.Record.{Record}
use Rattle.refutation_log.specs.Steps.{result_of}
use Rattle.nogood_store.specs.declared.nogood.Nogood.{Nogood}
use Rattle.nogood_store.specs.Hits.{Matches}
use Rattle.branch_core.specs.declared.report.Report.{Report}
use Rattle.branch_core.specs.Shapes.{IsOfRegion, IsRegionShown, IsEnded}
use Rattle.branch_core.specs.Solved.{IsSolved, report_of}
use Rattle.branch_kernel.specs.Boxes.{IsClear, node_box, IsFront}
use Rattle.branch_kernel.specs.Clean.{IsClean}
use Rattle.branch_kernel.specs.Growth.{Ends}
use Rattle.branch_kernel.specs.Nodes.{IsNode}
use Rattle.branch_kernel.specs.Rivals.{IsSettled, IsLater, Settles}
use Rattle.branch_kernel.specs.States.{State, relied, IsHeld, IsInside}
use Rattle.branch_kernel.proofs.DropLaws.{answered_of}
use Rattle.branch_kernel.proofs.GrowthLaws.{clean_falls, settles_falls}
use Rattle.branch_kernel.proofs.NodeLaws.{held_falls}
use Rattle.branch_kernel.proofs.RivalLaws.{later_self, later_trans, rival_later}
use Rattle.branch_kernel.proofs.WithLaws.{with_box, with_all, contains_with, exact_literal, if_false}

-- what holds of a job's part holds of each, since there is one
pub part_same : (c : Choices) (job : Job) (P : List ℕ → ℕ → ℕ → Type 0) (codes other : List ℕ) (lo hi low high : ℕ) → IsRegionPart c job codes lo hi
    → P codes lo hi → IsRegionPart c job other low high → P other low high
part_same c job P codes other lo hi low high part holds also =
    let (e, f, g) = one_part c job codes other lo hi low high part also in
    subst (P other low) g (subst (λ lo. P other lo hi) f (subst (λ codes. P codes lo hi) e holds))

pub front_free : (c : Choices) (codes : List ℕ) (n : ℕ) (box : List Literal) → IsFront c codes n box → LeavesFree box n
front_free c codes n box f =
    All-weaker (λ l. (l.block < n) × (l ≡ exact l.block (code_of codes l.block))) (λ l. l.block ≢ n) (λ l h e. let b = h.0 in absurd (omega arith)) box f.only

-- one code more
pub front_more : (c : Choices) (codes : List ℕ) (n : ℕ) (box next : List Literal) (l : Literal) → n < blocks c → code_of codes n < count c n → IsFront c codes n box
    → l ≡ exact n (code_of codes n) → next ≡ with_literal box l → IsFront c codes (n + 1) next
front_more c codes n box next l exists below f e g = subst (IsFront c codes (n + 1)) (sym (g ∙ ap (with_literal box) e)) (record {
  is = with_box c box m f.is (exact_literal c n (code_of codes n) exists below);
  only = with_all (λ l. (l.block < n + 1) × (l ≡ exact l.block (code_of codes l.block))) box m
      (All-weaker (λ l. (l.block < n) × (l ≡ exact l.block (code_of codes l.block))) (λ l. (l.block < n + 1) × (l ≡ exact l.block (code_of codes l.block)))
      (λ l h. let b = h.0 in (omega arith, h.1)) box f.only) (omega arith, refl);
  has = λ b h. elim (cases_lt b n) [
    | inl old ↦ All-contains (Contains (with_literal box m)) box (exact b (code_of codes b)) (contains_with box m free) (f.has b old)
    | inr new ↦ let same : n ≡ b = omega arith in subst (λ b. Contains (with_literal box m) (exact b (code_of codes b))) same (with_self box m)
  ];
  extends = λ q held b h. let (inside, at) = held_without box m q free held in elim (cases_lt b n) [
    | inl old ↦ f.extends q inside b old
    | inr new ↦
        let same : n ≡ b = omega arith in
        subst (λ b. code_of codes b ≡ code_of q b) same (let x = at.0 in let y = at.1 in omega arith)
  ];
  holds = λ q h. held_with box m q (f.holds q (λ b i. h b (omega arith))) (let same = h n (omega arith) in (omega arith, omega arith));
})
  where
    m : Literal
    m = exact n (code_of codes n)

    free : LeavesFree box n
    free = front_free c codes n box f

-- a stored box that the codes of a front meet contains the front's box
pub codes_cover : (c : Choices) (codes : List ℕ) (part : List Literal) (n : ℕ) (box : List Literal) → IsFront c codes n box → Matches (take n codes) part → Covers c part box
codes_cover c codes part n box f meets k d l =
    let met = meets k d l in
    let a = get_or part k d in
    let m : a.block < n = let t = take-below n codes in let b = met.block_in in omega arith in
    let same : code_of (take n codes) a.block ≡ code_of codes a.block = get_or-take n codes a.block 0 m in
    let (i, within, is) = f.has a.block m in
    let low = met.low in let high = met.high in
    inr (i, exact a.block (code_of codes a.block), within, is, (refl, omega arith, omega arith))
  where
    take-below : (n : ℕ) (xs : List ℕ) → length (take n xs) ≤ n
    take-below zero xs = omega arith
    take-below (suc n) [] = omega arith
    take-below (suc n) (x ∷ xs) = let h = take-below n xs in omega arith

-- the codes of a region's prefix exist
pub part_codes : (c : Choices) (job : Job) (codes : List ℕ) (lo hi : ℕ) → IsRegionPart c job codes lo hi → (b : ℕ) → b < length codes → (b < blocks c) × (code_of codes b < count c b)
part_codes c job codes lo hi part b l =
    let (q, inside) = part.some in
    let follows = (part.plans q inside.0).0 inside in
    let same = follows.0 b l in
    let n : length codes ≤ blocks c = elim part.range [ inl some ↦ let x = some.0 in omega arith | inr whole ↦ let x = whole.0 in omega arith ] in
    let exists : b < blocks c = omega arith in
    let below = inside.0.in_range b exists in
    (exists, omega arith)

-- a plan of the region lies in the box of each front of its prefix
pub region_holds : (c : Choices) (job : Job) (codes : List ℕ) (lo hi n : ℕ) (side : List Literal) → IsRegionPart c job codes lo hi → n ≤ length codes → IsFront c codes n side
    → (q : List ℕ) → IsFeasible c q → IsInRegion c job q → Holds side q
region_holds c job codes lo hi n side part less front q feasible inside =
    let follows = (part.plans q feasible.is_plan).0 inside in
    front.holds q (λ b i. follows.0 b (omega arith))

held_node : (c : Choices) (side : List Literal) (b lo hi : ℕ) (q : List ℕ) → Holds side q → HoldsCode q (record { block = b; lo = lo; hi = hi }) → Holds (node_box c side b lo hi) q
held_node c side b lo hi q held at = go ((lo == 0) && (hi == count c b))
  where
    go : (t : Bool) → Holds (if t then side else with_literal side (record { block = b; lo = lo; hi = hi })) q
    go true = held
    go false = held_with side (record { block = b; lo = lo; hi = hi }) q held at

-- and in that box with its next code
pub front_holds : (c : Choices) (job : Job) (codes : List ℕ) (lo hi n : ℕ) (side : List Literal) → IsRegionPart c job codes lo hi → n < length codes → IsFront c codes n side
    → (q : List ℕ) → IsFeasible c q → IsInRegion c job q → Holds (node_box c side n (code_of codes n) (code_of codes n + 1)) q
front_holds c job codes lo hi n side part less front q feasible inside =
    let follows = (part.plans q feasible.is_plan).0 inside in
    let e = follows.0 n less in
    held_node c side n (code_of codes n) (code_of codes n + 1) q (region_holds c job codes lo hi n side part (omega arith) front q feasible inside) (omega arith, omega arith)

-- and in that box with the region's range
pub range_holds : (c : Choices) (job : Job) (codes : List ℕ) (lo hi : ℕ) (side : List Literal) → IsRegionPart c job codes lo hi → length codes < blocks c → IsFront c codes (length codes) side
    → (q : List ℕ) → IsFeasible c q → IsInRegion c job q → Holds (node_box c side (length codes) lo hi) q
range_holds c job codes lo hi side part next front q feasible inside =
    let follows = (part.plans q feasible.is_plan).0 inside in
    held_node c side (length codes) lo hi q (region_holds c job codes lo hi (length codes) side part (omega arith) front q feasible inside) (follows.1 next)

-- a region with a range is a node
pub region_node : (c : Choices) (job : Job) (codes : List ℕ) (lo hi : ℕ) (side : List Literal) → IsRegionPart c job codes lo hi → length codes < blocks c → IsFront c codes (length codes) side → IsClear c side
    → IsNode c job side (length codes) lo hi
region_node c job codes lo hi side part next front clear = record {
  side_is = front.is;
  clear = clear;
  block = next;
  free = front_free c codes (length codes) side front;
  range = elim part.range [ inl some ↦ let x = some.1 in let y = some.2 in inl (omega arith, omega arith) | inr whole ↦ let x = whole.0 in absurd (omega arith) ];
  region = λ q feasible held l h. (part.plans q feasible.is_plan).1 (front.extends q held, λ next. (l, h));
}

-- the box of a region has the exact literals of its prefix, but on blocks with one code
have_exact : (c : Choices) (b : ℕ) (codes : List ℕ) (i : ℕ) → i < length codes → count c (b + i) ≢ 1 → Contains (exact_literals c b codes) (exact (b + i) (code_of codes i))
have_exact c b [] i l ne = absurd (omega arith)
have_exact c b (code ∷ codes) zero l ne =
    let e : b + 0 ≡ b = omega arith in
    subst (λ x. Contains (exact_literals c b (code ∷ codes)) (exact x code)) (sym e)
    (first (count c b == 1) (ne_eqb (count c b) 1 (λ f. ne (ap (count c) e ∙ f))))
  where
    first : (t : Bool) → t ≡ false → Contains ((if t then [] else exact b code ∷ []) ++ exact_literals c (suc b) codes) (exact b code)
    first true e = absurd (true≢false e)
    first false e = (0, omega arith, refl)
have_exact c b (code ∷ codes) (suc i) l ne =
    let e : suc b + i ≡ b + suc i = omega arith in
    Contains-append_right (if count c b == 1 then [] else exact b code ∷ []) (exact_literals c (suc b) codes) (exact (b + suc i) (code_of codes i))
    (subst (λ x. Contains (exact_literals c (suc b) codes) (exact x (code_of codes i))) e (have_exact c (suc b) codes i (omega arith) (λ f. ne (ap (count c) (sym e) ∙ f))))

-- then what contains the box contains the region's box
pub covers_region : (c : Choices) (outer box region : List Literal) → IsBox c outer → IsBox c box → IsOfRegion c region box → Covers c outer box → Covers c outer region
covers_region c outer box region is box_is of cover k d l = elim (cover k d l) [
  | inl whole ↦ inl whole
  | inr some ↦
      let (j, m, within, here, (at, lo, hi)) = some in
      let a = get_or outer k d in
      let x : IsLiteral c a = is.each k d l in
      let y : IsLiteral c m = All-contains (IsLiteral c) box m box_is.each (j, within, here) in
      elim (All-contains (λ m. (count c m.block ≡ 1) ⊎ Contains region m) box m of (j, within, here)) [
        | inl one ↦
            let e : count c m.block ≡ count c a.block = ap (count c) at in
            let top = x.codes in let some = x.some in
            inl (omega arith, omega arith)
        | inr inside ↦ let (i, v, f) = inside in inr (i, m, v, f, (at, lo, hi))
      ]
]

-- an exact literal of the prefix is of the region
exact_of : (c : Choices) (codes : List ℕ) (lo hi : ℕ) (m : Literal) → m.block < length codes → m ≡ exact m.block (code_of codes m.block) → (count c m.block ≡ 1) ⊎ Contains (region_box c codes lo hi) m
exact_of c codes lo hi m below e = go (count c m.block == 1) refl
  where
    go : (t : Bool) → (count c m.block == 1) ≡ t → (count c m.block ≡ 1) ⊎ Contains (region_box c codes lo hi) m
    go true f = inl (eqb-true (count c m.block) 1 f)
    go false f = inr (Contains-append_left (exact_literals c 0 codes) (range_literal c (length codes) lo hi) m
        (subst (Contains (exact_literals c 0 codes)) (sym e)
        (let z : 0 + m.block ≡ m.block = omega arith in
        subst (λ b. Contains (exact_literals c 0 codes) (exact b (code_of codes m.block))) z
        (have_exact c 0 codes m.block below (λ g. true≢false (sym (eq-eqb (count c m.block) 1 (ap (count c) (sym z) ∙ g)) ∙ f))))))

-- the literals of a front are of the region
front_of_region : (c : Choices) (codes : List ℕ) (lo hi n : ℕ) (side : List Literal) → n ≤ length codes → IsFront c codes n side → IsOfRegion c (region_box c codes lo hi) side
front_of_region c codes lo hi n side less front =
    All-weaker (λ l. (l.block < n) × (l ≡ exact l.block (code_of codes l.block))) (λ m. (count c m.block ≡ 1) ⊎ Contains (region_box c codes lo hi) m) one side front.only
  where
    one : (m : Literal) → (m.block < n) × (m ≡ exact m.block (code_of codes m.block)) → (count c m.block ≡ 1) ⊎ Contains (region_box c codes lo hi) m
    one m (below, e) = exact_of c codes lo hi m (omega arith) e

-- so are those of its box with its next code
pub single_of_region : (c : Choices) (codes : List ℕ) (lo hi n : ℕ) (side : List Literal) → n < length codes → IsFront c codes n side
    → IsOfRegion c (region_box c codes lo hi) (node_box c side n (code_of codes n) (code_of codes n + 1))
single_of_region c codes lo hi n side less front = go ((code_of codes n == 0) && (code_of codes n + 1 == count c n))
  where
    l : Literal
    l = record { block = n; lo = code_of codes n; hi = code_of codes n + 1 }

    sides : IsOfRegion c (region_box c codes lo hi) side
    sides = front_of_region c codes lo hi n side (omega arith) front

    go : (t : Bool) → IsOfRegion c (region_box c codes lo hi) (if t then side else with_literal side l)
    go true = sides
    go false = with_all (λ m. (count c m.block ≡ 1) ⊎ Contains (region_box c codes lo hi) m) side l sides (exact_of c codes lo hi l less refl)

-- and those of its box with the region's range
pub range_of_region : (c : Choices) (codes : List ℕ) (lo hi : ℕ) (side : List Literal) → lo < hi → IsFront c codes (length codes) side
    → IsOfRegion c (region_box c codes lo hi) (node_box c side (length codes) lo hi)
range_of_region c codes lo hi side some front = go ((lo == 0) && (hi == count c (length codes))) refl
  where
    l : Literal
    l = record { block = length codes; lo = lo; hi = hi }

    sides : IsOfRegion c (region_box c codes lo hi) side
    sides = front_of_region c codes lo hi (length codes) side (omega arith) front

    here : (t : Bool) → ((lo == 0) && (hi == count c (length codes))) ≡ t → t ≡ false → Contains (region_box c codes lo hi) l
    here true e f = absurd (true≢false f)
    here false e f = Contains-append_right (exact_literals c 0 codes) (range_literal c (length codes) lo hi) l
        (subst (λ box. Contains box l)
        (sym (if_false (hi == 0) [] (if ((lo == 0) && (hi == count c (length codes))) then [] else l ∷ []) (ne_eqb hi 0 (λ z. absurd (omega arith)))
        ∙ if_false ((lo == 0) && (hi == count c (length codes))) [] (l ∷ []) e))
        (0, omega arith, refl))

    go : (t : Bool) → ((lo == 0) && (hi == count c (length codes))) ≡ t → IsOfRegion c (region_box c codes lo hi) (if t then side else with_literal side l)
    go true e = sides
    go false e = with_all (λ m. (count c m.block ≡ 1) ⊎ Contains (region_box c codes lo hi) m) side l sides (inr (here false e refl))

pub front_region : (c : Choices) (codes : List ℕ) (lo hi n : ℕ) (side : List Literal) → n ≤ length codes → IsFront c codes n side → IsOfRegion c (region_box c codes lo hi) side
front_region c codes lo hi n side less front = front_of_region c codes lo hi n side less front

-- the bar falls once more
pub ends_falls : (c : Choices) (old : State) (bar bar' : ℕ) (best : Option (List ℕ)) (log : List Record) (store : List Nogood) → bar < 2 ^ 64 → bar' ≤ bar
    → Ends c old (record { bar = bar; best = best; log = log; store = store }) → Ends c old (record { bar = bar'; best = best; log = log; store = store })
ends_falls c old bar bar' best log store fits falls e =
    let later : IsLater c bar best bar' best = record { falls = falls; no_worse = (let x = later_self c bar best in x.no_worse) } in
    record {
      later = later_trans c old.bar bar bar' old.best best best e.later later;
      more = e.more;
      good = λ i l m t rival. e.good i l m t (rival_later c bar bar' best best t fits later rival);
      asked = e.asked;
      stored = e.stored;
      settles = λ h. All-weaker (λ e. Settles c bar None e.part) (λ e. Settles c bar' None e.part) (λ e. settles_falls c bar bar' e.part falls) store (e.settles h);
      clean = λ h. All-weaker (λ e. IsClean c bar log e.tag) (λ e. IsClean c bar' log e.tag) (λ e. clean_falls c bar bar' log e.tag fits falls) store (e.clean h);
    }

-- so does what a search of a region has done
pub ended_falls : (c : Choices) (job : Job) (old : State) (bar bar' : ℕ) (best : Option (List ℕ)) (log : List Record) (store : List Nogood) → bar < 2 ^ 64 → bar' ≤ bar
    → IsEnded c job old (record { bar = bar; best = best; log = log; store = store }) → IsEnded c job old (record { bar = bar'; best = best; log = log; store = store })
ended_falls c job old bar bar' best log store fits falls e = record {
  ends = ends_falls c old bar bar' best log store fits falls e.ends;
  held = held_falls c bar bar' best falls e.held;
  inside = e.inside;
}

-- the best of what is held and inside
reached_from : (c : Choices) (r : Report) (bar : ℕ) (best : Option (List ℕ)) → r.best ≡ best → r.seen ≤ bar → IsHeld c bar best → IsInside c r.job best → IsReached c (report_of r)
reached_from c r bar None e f held inside p is = absurd (none-some p (sym e ∙ is))
reached_from c r bar (Some m) e f held inside p is =
    let same : m ≡ p = same_Some m p (sym e ∙ is) in
    subst (λ p. IsFeasible c p × IsInRegion c r.job p × (r.seen ≤ key c p)) same (held.0, inside, (let l = held.1 in omega arith))

-- each plan is settled by what is shown of a box that holds the region
least_from : (c : Choices) (r : Report) (bar : ℕ) (tie : Bool) (best : Option (List ℕ)) (box : List Literal) → r.best ≡ best → r.seen ≤ bar
    → ((q : List ℕ) → IsFeasible c q → IsInRegion c r.job q → Holds box q) → Settles c bar (relied tie best) box → IsLeast c (report_of r)
least_from c r bar tie best box e f holds settles q feasible region = go tie best e (settles q feasible (holds q feasible region))
  where
    go : (tie : Bool) (best : Option (List ℕ)) → r.best ≡ best → IsSettled c bar (relied tie best) q
        → (r.seen < key c q) ⊎ ((p : List ℕ) × (r.best ≡ Some p) × (IsBefore c q p → ⊥))
    go true None e h = elim h [ inl l ↦ inl (omega arith) | inr w ↦ absurd w ]
    go true (Some m) e h = elim h [ inl l ↦ inl (omega arith) | inr w ↦ inr (m, e, w) ]
    go false best e h = elim h [ inl l ↦ inl (omega arith) | inr w ↦ absurd w ]

-- some block of a region with a plan has no code: that cannot be
no_empty : (c : Choices) (job : Job) (codes : List ℕ) (lo hi b : ℕ) → IsRegionPart c job codes lo hi → b < blocks c → count c b ≡ 0 → ⊥
no_empty c job codes lo hi b part exists none = let (q, inside) = part.some in let l = inside.0.in_range b exists in omega arith

-- the report on a region that a record shows
pub solved : (c : Choices) (job : Job) (codes : List ℕ) (lo hi : ℕ) (old : State) (bar bar' seen : ℕ) (best : Option (List ℕ)) (log : List Record) (store : List Nogood) (tie : Bool) (number : ℕ)
    → bar < 2 ^ 64 → bar' ≤ bar → seen ≡ bar' → IsBar c seen → IsRegionPart c job codes lo hi
    → IsEnded c job old (record { bar = bar; best = best; log = log; store = store })
    → IsRegionShown c job codes lo hi old (record { bar = bar; best = best; log = log; store = store }) tie number
    → IsSolved c job old (record { bar = bar'; best = best; log = log; store = store }) (record { job = job; best = best; seen = seen; refutation = number })
solved c job codes lo hi old bar bar' seen best log store tie number fits falls e is_bar part ended is =
    let r : Report = record { job = job; best = best; seen = seen; refutation = number } in
    let answer = answered_of c old (record { bar = bar; best = best; log = log; store = store }) tie number is.box is.shown in
    record {
      job_is = refl;
      reached = reached_from c r bar best refl (omega arith) ended.held ended.inside;
      seen = e;
      is_bar = is_bar;
      least = λ right. least_from c r bar tie best is.box refl (omega arith) is.holds (answer.settles right);
      ends = ends_falls c old bar bar' best log store fits falls ended.ends;
      last = is.last;
      refutes = (
        is.shown.record_is,
        is.shown.at,
        record {
          box = is.shown.result_is;
          part = λ other low high also. part_same c job (λ codes lo hi. Covers c (result_of c is.shown.record_is) (region_box c codes lo hi)) codes other lo hi low high part
              (covers_region c (result_of c is.shown.record_is) is.box (region_box c codes lo hi) is.shown.result_is is.box_is is.of is.shown.contains) also;
          empty = λ b exists none. absurd (no_empty c job codes lo hi b part exists none);
        },
      );
    }
