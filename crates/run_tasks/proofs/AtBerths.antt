-- The speech at each berth, and the command of each group.
use Rattle.std.proofs.Common.{◌≡◌, ℕ, zero, suc, ◌+◌, ◌-◌, ◌<◌, nat_lt, Bool, true, false, List, [], ◌∷◌, ◌++◌, length, replicate, Some, refl, sym, ◌∙◌, ap, arith, append_assoc, append-nil, length-append, ◌⊎◌, inl, inr}
use Rattle.std.specs.Prelude.{zip, flat_map, sum_by, slice_get}
use Rattle.std.proofs.lemmas.Bool.{ltb-true, ltb-false}
use Rattle.std.proofs.lemmas.List.{length-map, length-replicate}
use Rattle.std.proofs.lemmas.List.Sums.{sum_by-cons}
use Rattle.run_plan.specs.declared.plan.Group.{Group}
use Rattle.run_plan.specs.declared.plan.Plan.{Plan}
use Rattle.run_plan.specs.declared.plan.Speech.{Speech}
use Rattle.run_plan.specs.Groups.{group_from, berth_group, berths, kind_of}
use Rattle.action_list.specs.declared.parts.GroupPart.{GroupPart}
use Rattle.run_tasks.specs.Setup.{group_speeches, speeches_for}
use Rattle.run_tasks.specs.Laws.{CommandsLaw, HasCommand, HasSpeech, SpeechesLaw}

pub by_test : {A : Type 0} (b : Bool) → (b ≡ true → A) → (b ≡ false → A) → A
by_test true h k = h refl
by_test false h k = k refl

-- ---- elements of lists that are laid one after the other

module _ {X : Type 0} where
  pub get_front : (n w : ℕ) (x : X) (ys : List X) → w < n
      → slice_get (replicate n x ++ ys) w ≡ Some x
  get_front zero w x ys lt = absurd (omega arith)
  get_front (suc n) zero x ys lt = refl
  get_front (suc n) (suc w) x ys lt = get_front n w x ys (omega arith)

  pub get_behind : (n w v : ℕ) (x : X) (ys : List X) → n + v ≡ w
      → slice_get (replicate n x ++ ys) w ≡ slice_get ys v
  get_behind zero w v x ys e =
      let same : w ≡ v = omega arith in ap (λ (k : ℕ). slice_get ys k) same
  get_behind (suc n) zero v x ys e = absurd (omega arith)
  get_behind (suc n) (suc w) v x ys e = get_behind n w v x ys (omega arith)

-- ---- groups with their parts

abbrev sum : List Group → ℕ
sum gs = sum_by (λ g. g.berths) gs

-- the speeches of these groups
abbrev pub speeches : List Group → List GroupPart → List Speech
speeches gs parts = flat_map group_speeches (zip gs parts)

as_many : (gs : List Group) (parts : List GroupPart) → length parts ≡ length gs
    → length (speeches gs parts) ≡ sum gs
as_many [] parts e = refl
as_many (g ∷ gs) [] e = absurd (omega arith)
as_many (g ∷ gs) (p ∷ ps) e =
    let here : List Speech = group_speeches (g, p) in
    let both = length-append here (speeches gs ps) in
    let own = length-replicate g.berths p.speech in
    let rest = as_many gs ps (omega arith) in
    let cons = sum_by-cons (λ (x : Group). x.berths) g gs in
    omega (arith, both, own, rest, cons)

-- the next group has its part, and their speeches go on the list
pub speeches_one : (gs gs' : List Group) (parts parts' : List GroupPart) (g : Group)
    (p : GroupPart) (made made' all : List Speech) → gs ≡ g ∷ gs' → parts ≡ p ∷ parts'
    → made ++ speeches gs parts ≡ all → made' ≡ made ++ group_speeches (g, p)
    → made' ++ speeches gs' parts' ≡ all
speeches_one gs gs' parts parts' g p made made' all of_gs of_parts was is =
    ap (λ (xs : List Speech). xs ++ speeches gs' parts') is
    ∙ (append_assoc made (group_speeches (g, p)) (speeches gs' parts')
    ∙ (ap (λ (xs : List Group). made ++ speeches xs (p ∷ parts')) (sym of_gs)
    ∙ (ap (λ (xs : List GroupPart). made ++ speeches gs xs) (sym of_parts) ∙ was)))

none_left : (gs : List Group) (parts : List GroupPart) → (gs ≡ []) ⊎ (parts ≡ [])
    → speeches gs parts ≡ []
none_left [] parts end = refl
none_left (g ∷ gs) [] end = refl
none_left (g ∷ gs) (p ∷ ps) (inl e) = absurd (cc)
none_left (g ∷ gs) (p ∷ ps) (inr e) = absurd (cc)

pub speeches_end : (gs : List Group) (parts : List GroupPart) (made all : List Speech)
    → (gs ≡ []) ⊎ (parts ≡ []) → made ++ speeches gs parts ≡ all → made ≡ all
speeches_end gs parts made all end was =
    sym (append-nil made)
    ∙ (ap (λ (xs : List Speech). made ++ xs) (sym (none_left gs parts end)) ∙ was)

-- the place of the berth's group among these, the first of which has the number n
record Placed (n : ℕ) (gs : List Group) (parts : List GroupPart) (w : ℕ) : Type 0 where
  index : ℕ
  group : Group
  part : GroupPart
  group_here : slice_get gs index ≡ Some group
  part_here : slice_get parts index ≡ Some part
  numbered : group_from n gs w ≡ Some (n + index)
  spoken : slice_get (speeches gs parts) w ≡ Some part.speech

-- in the first group
placed_first : (n : ℕ) (g : Group) (gs : List Group) (p : GroupPart) (ps : List GroupPart)
    (w : ℕ) → nat_lt w g.berths ≡ true → Placed n (g ∷ gs) (p ∷ ps) w
placed_first n g gs p ps w within =
    let below = ltb-true w g.berths within in record {
      index = 0;
      group = g;
      part = p;
      group_here = refl;
      part_here = refl;
      numbered = rw within (let z : n ≡ n + 0 = omega arith in ap Some z);
      spoken = get_front g.berths w p.speech (speeches gs ps) below;
    }

-- or in a later one
placed_later : (n : ℕ) (g : Group) (gs : List Group) (p : GroupPart) (ps : List GroupPart)
    (w : ℕ) → nat_lt w g.berths ≡ false → Placed (n + 1) gs ps (w - g.berths)
    → Placed n (g ∷ gs) (p ∷ ps) w
placed_later n g gs p ps w beyond rest =
    let above = ltb-false w g.berths beyond in
    let place : n + 1 + rest.index ≡ n + suc rest.index = omega arith in
    let behind = speeches gs ps in record {
      index = suc rest.index;
      group = rest.group;
      part = rest.part;
      group_here = rest.group_here;
      part_here = rest.part_here;
      numbered = rw beyond (rest.numbered ∙ ap Some place);
      spoken =
          get_behind g.berths w (w - g.berths) p.speech behind (omega arith) ∙ rest.spoken;
    }

placed : (n : ℕ) (gs : List Group) (parts : List GroupPart) (w : ℕ)
    → length parts ≡ length gs → w < sum gs → Placed n gs parts w
placed n [] parts w e lt = absurd (omega arith)
placed n (g ∷ gs) [] w e lt = absurd (omega arith)
placed n (g ∷ gs) (p ∷ ps) w e lt =
    by_test (nat_lt w g.berths)
    (λ within. placed_first n g gs p ps w within)
    (λ beyond.
    let above = ltb-false w g.berths beyond in
    let cons = sum_by-cons (λ (x : Group). x.berths) g gs in
    placed_later n g gs p ps w beyond
    (placed (n + 1) gs ps (w - g.berths) (omega arith) (omega arith)))

-- the berth w of a plan, with its group and the group's part
pub record Seated (plan : Plan) (parts : List GroupPart) (w : ℕ) : Type 0 where
  pub index : ℕ
  pub group : Group
  pub part : GroupPart
  pub group_here : slice_get plan.groups index ≡ Some group
  pub part_here : slice_get parts index ≡ Some part
  pub is_group : berth_group plan w ≡ Some index
  pub kind : kind_of plan w ≡ group.kind
  pub spoken : slice_get (speeches_for plan parts) w ≡ Some part.speech

pub seated : (plan : Plan) (parts : List GroupPart) (w : ℕ) → length parts ≡ length plan.groups
    → w < berths plan → Seated plan parts w
seated plan parts w e lt =
    let at = placed 0 plan.groups parts w e lt in
    let group : berth_group plan w ≡ Some at.index =
    at.numbered ∙ (let z : 0 + at.index ≡ at.index = omega arith in ap Some z) in
    let kind : kind_of plan w ≡ at.group.kind = rw (group, at.group_here) refl in record {
      index = at.index;
      group = at.group;
      part = at.part;
      group_here = at.group_here;
      part_here = at.part_here;
      is_group = group;
      kind = kind;
      spoken = at.spoken;
    }

has_speech : (plan : Plan) (parts : List GroupPart) → length parts ≡ length plan.groups
    → (w : ℕ) → w < berths plan → HasSpeech plan parts w
has_speech plan parts e w lt =
    let at = seated plan parts w e lt in
    let is = at.is_group in (at.part, rw is at.part_here, at.spoken)

pub speeches_law : SpeechesLaw
speeches_law plan parts e = (as_many plan.groups parts e, has_speech plan parts e)

-- ---- the commands

has_command : (parts : List GroupPart) (g : ℕ) → g < length parts → HasCommand parts g
has_command [] g lt = absurd (omega arith)
has_command (p ∷ ps) zero lt = (p, refl, refl)
has_command (p ∷ ps) (suc g) lt = has_command ps g (omega arith)

pub commands_law : CommandsLaw
commands_law plan parts e = (
  length-map parts (λ (part : GroupPart). part.command) ∙ e,
  λ g lt. has_command parts g (omega (arith, lt, e)),
)
