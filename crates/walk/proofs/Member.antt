-- What the lists hold: `trails` exactly the tries of at most n steps, `all_bad` exactly the bad schedules of at most n steps.
-- So a reader need not believe the two lists, only `Tried` and `Bad`.
use Prim.Native.Nat.{ℕ, zero, suc, ◌≤◌}
use mathlib.Core.Path.{◌≡◌, refl, sym, ap, ◌∙◌}
use mathlib.Core.Logic.{◌↔◌, ◌⊎◌, inl, inr}
use mathlib.Core.List.Memᴰ
use mathlib.Core.List.{List, [], ◌∷◌, map, Memᴰ}
use native.Mathlib.Omega.{arith}
use lib.ListN.{length}
use Rattle.walk.specs.Base.{All}
use Rattle.walk.specs.Machine.{Machine, Coded, Outcome, refused, too_big, goes, breaks}
use Rattle.walk.specs.Bad.{Bad, last, more}
use Rattle.walk.specs.Trail.{Mark, plain, sized, bad, mark_of, Try, Tried, one, deeper, try_of, under, entered, across, trails, bad_and, bad_in, all_bad}
use Rattle.walk.proofs.Lists.{all_append, all_imp, all_at, all_of, all_map, mem_map}
use Rattle.walk.proofs.Placed.{real}

-- a try of at most n steps from c
abbrev Within : (M : Machine) → ℕ → M.Conf → Try → Type 0
Within M n c t = Tried M c t.word t.mark × (length t.word ≤ n)

-- every try listed is one
sound_below : (M : Machine) (n : ℕ) (f : M.Conf → List Try) → ((d : M.Conf) → All (Within M n d) (f d)) → (c : M.Conf) (k : ℕ)
    (o : Outcome M.Conf) → M.try c k ≡ o → All (λ t. Within M (suc n) c (under k t)) (entered f o)
sound_below M n f h c k refused e = tt
sound_below M n f h c k too_big e = tt
sound_below M n f h c k (goes d) e =
    all_imp (Within M n d) (λ t. Within M (suc n) c (under k t)) (λ t w. (deeper e w.0, omega (arith, w.1))) (f d) (h d)
sound_below M n f h c k breaks e = tt

sound_across : (M : Machine) (n : ℕ) (f : M.Conf → List Try) → ((d : M.Conf) → All (Within M n d) (f d)) → (c : M.Conf) (ks : List ℕ) →
    All (λ k. Memᴰ k M.codes) ks → All (Within M (suc n) c) (across M f c ks)
sound_across M n f h c [] a = tt
sound_across M n f h c (k ∷ ks) a = (
  (one a.0 refl, omega arith),
  all_append (Within M (suc n) c) (map (under k) (entered f (M.try c k))) (across M f c ks)
      (all_map (under k) (Within M (suc n) c) (entered f (M.try c k)) (sound_below M n f h c k (M.try c k) refl))
      (sound_across M n f h c ks a.1),
)

sound : (M : Machine) (n : ℕ) (c : M.Conf) → All (Within M n c) (trails M n c)
unfolding trails
sound M zero c = tt
sound M (suc n) c = sound_across M n (trails M n) (sound M n) c M.codes (all_of (λ k. Memᴰ k M.codes) M.codes (λ k m. m))

-- every try is listed
in_across : (M : Machine) (f : M.Conf → List Try) (c : M.Conf) {k : ℕ} {ks : List ℕ} → Memᴰ k ks → (t : Try) →
    Memᴰ t (try_of M c k ∷ map (under k) (entered f (M.try c k))) → Memᴰ t (across M f c ks)
in_across M f c {k} (Memᴰ.head {x = x} {xs = xs} e) t m =
    Memᴰ.append_left (across M f c xs) (rw e at m)
in_across M f c {k} (Memᴰ.tail {x = x} {xs = xs} m') t m =
    Memᴰ.tail (Memᴰ.append_right (map (under x) (entered f (M.try c x))) (in_across M f c m' t m))

module _ (M : Machine) (C : Coded M) where
  complete : (n : ℕ) {c : M.Conf} {w : List ℕ} {m : Mark} → Tried M c w m → length w ≤ n → Memᴰ (record { word = w; mark = m }) (trails M n c)
  unfolding trails
  complete zero (one i e) l = absurd (omega arith)
  complete zero (deeper e t) l = absurd (omega arith)
  complete (suc n) {c} (one {k = k} {m = m} i e) l =
      in_across M (trails M n) c i (record { word = k ∷ []; mark = m }) (Memᴰ.head (ap (λ (y : Mark). record { word = k ∷ []; mark = y }) (sym e)))
  complete (suc n) {c} (deeper {d = d} {k = k} {w = w} {m = m} e t) l =
      in_across M (trails M n) c (real M C c k (λ q. let z : ◌≡◌ {A = ℕ} 0 1 = cc in omega arith)) (record { word = k ∷ w; mark = m })
      (Memᴰ.tail (rw e (mem_map (under k) (complete n t (omega arith)))))

  -- the list of all tries holds exactly the tries
  pub mem_trails : (n : ℕ) (t : Try) → Memᴰ t (trails M n M.fresh) ↔ (Tried M M.fresh t.word t.mark × (length t.word ≤ n))
  mem_trails n t = (λ m. all_at (Within M n M.fresh) m (sound M n M.fresh), λ h. complete n h.0 h.1)

-- bad words of a list of tries
bad_in_lem : (l : List Try) (w : List ℕ) → Memᴰ w (bad_in l) → Memᴰ (record { word = w; mark = bad }) l
bad_in_lem [] w m = absurd (elim m [ ])
bad_in_lem (t ∷ l) w m = go t.mark refl m (bad_in_lem l w)
  where
    by_case : t.mark ≡ bad → (w ≡ t.word) ⊎ Memᴰ w (bad_in l) → (Memᴰ w (bad_in l) → Memᴰ (record { word = w; mark = bad }) l) →
        Memᴰ (record { word = w; mark = bad }) (t ∷ l)
    by_case e (inl q) rest = Memᴰ.head (λ i. record { word = q i; mark = sym e i })
    by_case e (inr m') rest = Memᴰ.tail (rest m')

    go : (k : Mark) → t.mark ≡ k → Memᴰ w (bad_and k t.word (bad_in l)) → (Memᴰ w (bad_in l) → Memᴰ (record { word = w; mark = bad }) l) →
        Memᴰ (record { word = w; mark = bad }) (t ∷ l)
    go plain e h rest = Memᴰ.tail (rest h)
    go sized e h rest = Memᴰ.tail (rest h)
    go bad e h rest = by_case e (Memᴰ.cases_cons h) rest

in_more : (m : Mark) (v : List ℕ) {w : List ℕ} {ws : List (List ℕ)} → Memᴰ w ws → Memᴰ w (bad_and m v ws)
in_more plain v h = h
in_more sized v h = h
in_more bad v h = Memᴰ.tail h

in_bad : {t : Try} {l : List Try} → Memᴰ t l → t.mark ≡ bad → Memᴰ t.word (bad_in l)
in_bad {t} (Memᴰ.head {x = x} e) q =
    let h : x.mark ≡ bad = ap (λ (y : Try). y.mark) (sym e) ∙ q in
    rw h (Memᴰ.head (ap (λ (y : Try). y.word) e))
in_bad (Memᴰ.tail {x = x} m) q = in_more x.mark x.word (in_bad m q)

-- a bad word is a try with the mark bad
breaks_of : {C : Type 0} (o : Outcome C) → mark_of o ≡ bad → o ≡ breaks
breaks_of refused e = absurd (let z : ◌≡◌ {A = ℕ} 0 1 = cc in omega arith)
breaks_of too_big e = absurd (let z : ◌≡◌ {A = ℕ} 0 1 = cc in omega arith)
breaks_of (goes c) e = absurd (let z : ◌≡◌ {A = ℕ} 0 1 = cc in omega arith)
breaks_of breaks e = refl

tried_bad : (M : Machine) {c : M.Conf} {w : List ℕ} {m : Mark} → Tried M c w m → m ≡ bad → Bad M c w
tried_bad M {c} (one {k = k} i e) q = last (breaks_of (M.try c k) (e ∙ q))
tried_bad M (deeper e t) q = more e (tried_bad M t q)

module _ (M : Machine) (C : Coded M) where
  bad_tried : {c : M.Conf} {w : List ℕ} → Bad M c w → Tried M c w bad
  bad_tried {c} (last {k = k} e) = one (real M C c k (λ q. let z : ◌≡◌ {A = ℕ} 0 1 = cc in omega arith)) (ap mark_of e)
  bad_tried (more e t) = deeper e (bad_tried t)

  -- the list of all bad schedules holds exactly the bad schedules
  pub mem_all_bad : (n : ℕ) (w : List ℕ) → Memᴰ w (all_bad M n) ↔ (Bad M M.fresh w × (length w ≤ n))
  unfolding all_bad
  mem_all_bad n w = (
    λ m. let h = (mem_trails M C n (record { word = w; mark = bad })).0 (bad_in_lem (trails M n M.fresh) w m) in (tried_bad M h.0 refl, h.1),
    λ h. in_bad (complete M C n (bad_tried h.0) h.1) refl,
  )
