-- Two states over the entries of a request: what each entry's step keeps, all of them keep.
use Rattle.std.proofs.Common.{◌≡◌, ℕ, List, [], ◌∷◌, refl}
use Rattle.std.specs.List.{AllByRecursion}
use Rattle.frame_fields.specs.Types.{TopicOf}
use Rattle.answering.specs.Lists.{map_accum}
use Rattle.answering.specs.Plans.{over_entries, over_topics}
use Rattle.cleaning_laws.specs.Settled.{EachEntry}

-- equal results, and states that are related
abbrev pub Same : {R S : Type 0} → (S → S → Type 0) → R × S → R × S → Type 0
Same A x y = (x.0 ≡ y.0) × A x.1 y.1

accum_same : {S X Y : Type 0} (f : S → X → Y × S) (A : S → S → Type 0) (P : X → Type 0) → ((s z : S) (x : X) → P x → A s z → Same A (f s x) (f z x))
    → (s z : S) (xs : List X) → AllByRecursion P xs → A s z → Same A (map_accum f s xs) (map_accum f z xs)
accum_same f A P step s z [] all related = (refl, related)
accum_same f A P step s z (x ∷ xs) all related =
    let first = step s z x all.0 related in
    let others = accum_same f A P step (f s x).1 (f z x).1 xs all.1 first.1 in
    ((λ i. first.0 i ∷ others.0 i), others.1)

accum_stays : {S X Y : Type 0} (f : S → X → Y × S) (A : S → S → Type 0) (P : X → Type 0) → ((s z : S) (x : X) → P x → A s z → A (f s x).1 (f z x).1)
    → (s z : S) (xs : List X) → AllByRecursion P xs → A s z → A (map_accum f s xs).1 (map_accum f z xs).1
accum_stays f A P step s z [] all related = related
accum_stays f A P step s z (x ∷ xs) all related = accum_stays f A P step (f s x).1 (f z x).1 xs all.1 (step s z x all.0 related)

module _ {E R S : Type 0} (f : S → List ℕ → E → R × S) (A : S → S → Type 0) (P : List ℕ → E → Type 0) where
  pub topics_same : ((s z : S) (name : List ℕ) (e : E) → P name e → A s z → Same A (f s name e) (f z name e))
      → (s z : S) (ts : List (TopicOf E)) → EachEntry P ts → A s z → Same A (over_topics f s ts) (over_topics f z ts)
  topics_same step s z ts each related = accum_same (over_entries f) A (λ (t : TopicOf E). AllByRecursion (P t.name) t.entries) topic s z ts each related
    where
      topic : (s z : S) (t : TopicOf E) → AllByRecursion (P t.name) t.entries → A s z → Same A (over_entries f s t) (over_entries f z t)
      topic s z t all related =
          let entries = accum_same (λ s e. f s t.name e) A (P t.name) (λ s z e p a. step s z t.name e p a) s z t.entries all related in
          ((λ i. record { name = t.name; entries = entries.0 i }), entries.1)

  pub topics_stay : ((s z : S) (name : List ℕ) (e : E) → P name e → A s z → A (f s name e).1 (f z name e).1)
      → (s z : S) (ts : List (TopicOf E)) → EachEntry P ts → A s z → A (over_topics f s ts).1 (over_topics f z ts).1
  topics_stay step s z ts each related = accum_stays (over_entries f) A (λ (t : TopicOf E). AllByRecursion (P t.name) t.entries) topic s z ts each related
    where
      topic : (s z : S) (t : TopicOf E) → AllByRecursion (P t.name) t.entries → A s z → A (over_entries f s t).1 (over_entries f z t).1
      topic s z t all related = accum_stays (λ s e. f s t.name e) A (P t.name) (λ s z e p a. step s z t.name e p a) s z t.entries all related
