-- A policy over all partitions: what it knows, the next frame, and the time before which it gives none. Kafka's documentation,
-- "Design", section "Log Compaction" (a cleaner takes one log after another). This project's own: partitions take turns.
use Rattle.std.specs.Prelude.{ℕ, zero, suc, ◌+◌, ◌^◌, ◌&&◌, nat_lt, List, [], ◌∷◌, ◌++◌, map, drop, Option, Some, None, if◌then◌else◌, ◌-◌, nat_le, min}
use Rattle.std.specs.List.{flat_map, fold}
use Rattle.std.specs.Option.{option_or}
use Rattle.cleaning_policy.specs.declared.values.Extent.{Extent}
use Rattle.cleaning_policy.specs.declared.values.Mark.{Mark}
use Rattle.cleaning_policy.specs.declared.values.Marks.{Marks}
use Rattle.cleaning_policy.specs.declared.values.Pass.{Pass}
use Rattle.cleaning_policy.specs.declared.values.Settings.{Settings}
use Rattle.cleaning_policy.specs.Partitions.{Part, new_part, told_part, due_pass, begun_part, cleaned_part, given_up_part, part_with_marks}

-- What a policy knows: its settings, its partitions, the pass that is under way, and the partition whose turn is next.
pub record Known : Type 0 where
  pub settings : Settings
  pub parts : List Part
  pub pass : Option Pass
  pub turn : ℕ

-- the policy of no partition
abbrev pub new_policy : Settings → Known
new_policy o = record { settings = o; parts = []; pass = None; turn = 0 }

-- a list in which one element is changed
abbrev pub changed_at : {X : Type 0} → ℕ → (X → X) → List X → List X
changed_at i f [] = []
changed_at zero f (x ∷ xs) = f x ∷ xs
changed_at (suc i) f (x ∷ xs) = x ∷ changed_at i f xs

-- ---- what is said to it

abbrev pub with_partition : (now : ℕ) → Known → Known
with_partition now v = record v { parts = v.parts ++ new_part now ∷ [] }

abbrev pub told : (now partition : ℕ) → Extent → Known → Known
told now i x v = record v { parts = changed_at i (told_part v.settings.lag now x) v.parts }

abbrev pub put_back : (now partition : ℕ) → Marks → Known → Known
put_back now i m v = record v { parts = changed_at i (part_with_marks now m) v.parts }

-- Its frame was answered, and so many bytes are left; where none is under way nothing changes.
abbrev pub cleaned : (now bytes : ℕ) → Known → Option Pass → Known
cleaned now bytes v None = v
cleaned now bytes v (Some q) = record v { pass = None; parts = changed_at q.frame.partition (cleaned_part v.settings.keep_deletes now q bytes) v.parts }

-- Its frame was refused; where none is under way nothing changes.
abbrev pub given_up : (now : ℕ) → Known → Option Pass → Known
given_up now v None = v
given_up now v (Some q) = record v { pass = None; parts = changed_at q.frame.partition (given_up_part now) v.parts }

-- ---- what it gives

-- the pass of the first partition that is due, where the first of them has this index
abbrev pub first_pass : Settings → (now index : ℕ) → List Part → Option Pass
first_pass o now i [] = None
first_pass o now i (p ∷ ps) = option_or (due_pass o now i p) (first_pass o now (i + 1) ps)

-- the next pass: of the first partition that is due, from the one whose turn it is on, and around; none while one is under way
abbrev pub next_pass : (now : ℕ) → Known → Option Pass → Option Pass
next_pass now v (Some under_way) = None
next_pass now v None = option_or (first_pass v.settings now v.turn (drop v.turn v.parts)) (first_pass v.settings now 0 v.parts)

-- the policy behind a pass that was given; then it is the turn of the partition behind it
abbrev pub behind_pass : (now : ℕ) → Known → Option Pass → Known
behind_pass now v None = v
behind_pass now v (Some q) = record v {
  pass = Some q;
  turn = q.frame.partition + 1;
  parts = changed_at q.frame.partition (begun_part now) v.parts;
}

-- of so many partitions, how many have their turn before one
abbrev pub turns_before : (count turn partition : ℕ) → ℕ
turns_before n turn i = if nat_le turn i then i - turn else (i + n) - min turn n

-- ---- when something may become due

-- when a mark gets ripe
abbrev pub ripe_at : (keep : ℕ) → Option Mark → List ℕ
ripe_at keep None = []
ripe_at keep (Some m) = (m.ended + keep) ∷ []

-- the times at which something of a partition may become due
abbrev pub moments : Settings → Part → List ℕ
moments o p = p.from ∷ ((p.marks.began + o.within) ∷ (ripe_at o.keep_deletes p.marks.newest ++ (ripe_at o.keep_deletes p.marks.older
    ++ map (λ s. s.time + o.lag) p.samples)))

-- the sooner of two times, the second where it lies behind now and within 64 bits
abbrev pub sooner : (now : ℕ) → Option ℕ → ℕ → Option ℕ
sooner now None t = if nat_lt now t && nat_lt t (2 ^ 64) then Some t else None
sooner now (Some u) t = if nat_lt now t && nat_lt t u then Some t else Some u

-- the first of some times behind now, or of another one
abbrev pub soonest : (now : ℕ) → Option ℕ → List ℕ → Option ℕ
soonest now found ts = fold (sooner now) found ts

-- the time before which nothing is due that isn't now
abbrev pub due_at : (now : ℕ) → Known → Option ℕ
due_at now v = soonest now None (flat_map (moments v.settings) v.parts)
