-- A search through the machine on labels is a search through the rules without limits, as long as no try is refused for
-- size: the machine follows the rules, with any claim that looks at no label.
use Prim.Native.Nat.{ℕ, zero, suc}
use mathlib.Core.Path.{◌≡◌, refl, sym, ap, ap₂, ◌∙◌}
use mathlib.Core.Bool.{Bool, true, false}
use mathlib.Core.List.{List, [], ◌∷◌, ◌++◌, map}
use native.Mathlib.Omega.{arith}
use lib.ListN.{length}
use lib.Dec.{eqb}
use Rattle.walk.specs.Machine.{Machine, Outcome, refused, too_big, goes, breaks}
use Rattle.walk.specs.Trail.{Try, mark_of, entered, across, trails, bad_in, all_bad}
use Rattle.walk.specs.Follows as F
use Rattle.terms.specs.Base.{pick, Held}
use Rattle.model.specs.Fields.{either}
use Rattle.model.specs.declared.records.Model.{Model}
use Rattle.state.specs.declared.control.Control.{Control}
use Rattle.rules.specs.declared.event.Happening.{Happening}
use Rattle.rules.specs.Reply.{Stepped}
use Rattle.audit.specs.Sound.{SoundModel}
use Rattle.law.specs.Out.{Out}
use Rattle.law.specs.Rules.{Made}
use Rattle.law.specs.Meant.{bare}
use Rattle.law.specs.Like.{LikeMade, Exactly, Follows, Fine}
use Rattle.law.specs.Machines.{refused_as, RulesConf, tried_rules, rules, LabelsConf, tried_labels, labels, Stand, Blind}
use Rattle.law.proofs.Exact.{steps_exactly}
use Rattle.law.proofs.Near.{follows}
use Rattle.law.proofs.Fine.{sound_fine}
use Rattle.law.proofs.Stands.{fine_fresh}

map_last : (es : List Happening) (h : Happening) → map bare (es ++ (h ∷ [])) ≡ map bare es ++ (bare h ∷ [])
map_last [] h = refl
map_last (e ∷ es) h = ap (λ (r : List Happening). bare e ∷ r) (map_last es h)

module _ {m : Model} (judge : List Happening → Happening → Bool) (blind : Blind judge) where
  refused_agree : (n : ℕ) → F.Agrees (Stand m) (refused_as n) (refused_as n)
  refused_agree n = go (either (eqb n 8) (eqb n 9))
    where
      go : (b : Bool) → F.Agrees (Stand m) (pick b too_big refused) (pick b too_big refused)
      go true = F.one_too_big
      go false = F.both_refused

  judged_agree : (a b : Bool) {c : LabelsConf} {d : RulesConf} → a ≡ b → Stand m c d → F.Agrees (Stand m) (pick a breaks (goes c)) (pick b breaks (goes d))
  judged_agree true true e h = F.both_break
  judged_agree true false e h = let z : ◌≡◌ {A = ℕ} 0 1 = cc in absurd (omega arith)
  judged_agree false true e h = let z : ◌≡◌ {A = ℕ} 0 1 = cc in absurd (omega arith)
  judged_agree false false e h = F.both_go h

  made_agree : (es fs : List Happening) → map bare es ≡ fs → {l : List ℕ} {s : Control} {h : Happening} {r : Made} → LikeMade m l s h r
      → F.Agrees (Stand m) (pick (judge es h) breaks (goes (record { table = l; control = s; events = es ++ (h ∷ []) })))
      (pick (judge fs r.happening) breaks (goes (record { state = r.state; events = fs ++ (r.happening ∷ []) })))
  made_agree es fs e {h = h} {r = r} k =
      judged_agree (judge es h) (judge fs r.happening) (sym (blind es h) ∙ ap₂ judge e k.event)
      (record { like = k.like; events = map_last es h ∙ ap₂ (λ (gs : List Happening) (g : Happening). gs ++ (g ∷ [])) e k.event })

  step_agree : (es fs : List Happening) → map bare es ≡ fs → {l : List ℕ} {s : Control} {w : Held Stepped} {o : Out Made} → Follows m l s w o
      → F.Agrees (Stand m) (tried_labels judge es w) (tried_rules judge fs o)
  step_agree es fs e (Follows.both k) = made_agree es fs e k
  step_agree es fs e (Follows.neither {n = n}) = refused_agree n
  step_agree es fs e Follows.too_deep_lem = F.one_too_big
  step_agree es fs e Follows.too_many = F.one_too_big

  -- M5 for searches: from a fresh start on
  pub fine_follows : Fine m → (codes : List ℕ) → F.Follows (labels judge codes m) (rules false judge codes m) (Stand m)
  fine_follows fine codes = record {
    codes = refl;
    starts = record { like = fine_fresh fine; events = refl };
    steps = λ c d k h. step_agree c.events d.events h.events (follows fine h.like k);
  }

pub labels_follow_rules : {m : Model} (judge : List Happening → Happening → Bool) → Blind judge → SoundModel m → length m.lines ≡ 512
    → (codes : List ℕ) → F.Follows (labels judge codes m) (rules false judge codes m) (Stand m)
labels_follow_rules judge blind model long codes = fine_follows judge blind (sound_fine model long) codes

-- With limits the two machines are one: every try has the same outcome, those refused for size too

-- the same outcome
data Same {C D : Type 0} (R : C → D → Type 0) : Outcome C → Outcome D → Type 0 where
  same_refused : Same R refused refused
  same_big : Same R too_big too_big
  same_go : {c : C} {d : D} → R c d → Same R (goes c) (goes d)
  same_break : Same R breaks breaks

module _ (M N : Machine) (R : M.Conf → N.Conf → Type 0) (steps : (c : M.Conf) (d : N.Conf) (k : ℕ) → R c d → Same R (M.try c k) (N.try d k)) where
  marks_same : {o : Outcome M.Conf} {p : Outcome N.Conf} → Same R o p → mark_of o ≡ mark_of p
  marks_same same_refused = refl
  marks_same same_big = refl
  marks_same (same_go r) = refl
  marks_same same_break = refl

  entered_same : (f : M.Conf → List Try) (g : N.Conf → List Try) → ((c : M.Conf) (d : N.Conf) → R c d → f c ≡ g d)
      → {o : Outcome M.Conf} {p : Outcome N.Conf} → Same R o p → entered f o ≡ entered g p
  entered_same f g h same_refused = refl
  entered_same f g h same_big = refl
  entered_same f g h (same_go {c = c} {d = d} r) = h c d r
  entered_same f g h same_break = refl

  across_same : (f : M.Conf → List Try) (g : N.Conf → List Try) → ((c : M.Conf) (d : N.Conf) → R c d → f c ≡ g d)
      → (c : M.Conf) (d : N.Conf) → R c d → (ks : List ℕ) → across M f c ks ≡ across N g d ks
  across_same f g h c d r [] = refl
  across_same f g h c d r (k ∷ ks) = rw (marks_same (steps c d k r), entered_same f g h (steps c d k r), across_same f g h c d r ks)

  trails_same : M.codes ≡ N.codes → (n : ℕ) (c : M.Conf) (d : N.Conf) → R c d → trails M n c ≡ trails N n d
  unfolding trails
  trails_same e zero c d r = refl
  trails_same e (suc n) c d r = across_same (trails M n) (trails N n) (trails_same e n) c d r M.codes ∙ ap (across N (trails N n) d) e

module _ {m : Model} (judge : List Happening → Happening → Bool) (blind : Blind judge) where
  refused_same : (n : ℕ) → Same (Stand m) (refused_as n) (refused_as n)
  refused_same n = go (either (eqb n 8) (eqb n 9))
    where
      go : (b : Bool) → Same (Stand m) (pick b too_big refused) (pick b too_big refused)
      go true = same_big
      go false = same_refused

  judged_same : (a b : Bool) {c : LabelsConf} {d : RulesConf} → a ≡ b → Stand m c d → Same (Stand m) (pick a breaks (goes c)) (pick b breaks (goes d))
  judged_same true true e h = same_break
  judged_same true false e h = let z : ◌≡◌ {A = ℕ} 0 1 = cc in absurd (omega arith)
  judged_same false true e h = let z : ◌≡◌ {A = ℕ} 0 1 = cc in absurd (omega arith)
  judged_same false false e h = same_go h

  step_same : (es fs : List Happening) → map bare es ≡ fs → {l : List ℕ} {s : Control} {w : Held Stepped} {o : Out Made} → Exactly m l s w o
      → Same (Stand m) (tried_labels judge es w) (tried_rules judge fs o)
  step_same es fs e (Exactly.both {h = h} {r = r} k) =
      judged_same (judge es h) (judge fs r.happening) (sym (blind es h) ∙ ap₂ judge e k.event)
      (record { like = k.like; events = map_last es h ∙ ap₂ (λ (gs : List Happening) (g : Happening). gs ++ (g ∷ [])) e k.event })
  step_same es fs e (Exactly.neither {n = n}) = refused_same n

  -- all tries of a search are those of the rules with limits: the same schedules, refused for size, bad, or neither
  pub tries_are_rules : SoundModel m → length m.lines ≡ 512 → (codes : List ℕ) (n : ℕ)
      → trails (labels judge codes m) n (labels judge codes m).fresh ≡ trails (rules true judge codes m) n (rules true judge codes m).fresh
  tries_are_rules model long codes n =
      let fine = sound_fine model long in
      trails_same (labels judge codes m) (rules true judge codes m) (Stand m)
      (λ c d k h. step_same c.events d.events h.events (steps_exactly fine h.like k)) refl n
      (labels judge codes m).fresh (rules true judge codes m).fresh (record { like = fine_fresh fine; events = refl })

  -- so the bad schedules are those of the rules with limits
  pub bad_are_rules : SoundModel m → length m.lines ≡ 512 → (codes : List ℕ) (n : ℕ) → all_bad (labels judge codes m) n ≡ all_bad (rules true judge codes m) n
  unfolding all_bad
  bad_are_rules model long codes n = ap bad_in (tries_are_rules model long codes n)
