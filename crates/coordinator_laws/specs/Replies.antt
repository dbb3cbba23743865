-- Requests that wait, and replies.
use Rattle.std.specs.Prelude.{⊤, ◌≡◌, ℕ, ◌+◌, ◌==◌, Bool, false, cond, List, [], ◌∷◌, Option, Some, None}
use Rattle.group_coordinator.specs.declared.values.Settings.{Settings}
use Rattle.group_coordinator.specs.Members.{Member, is_in}
use Rattle.group_coordinator.specs.Requests.{Reply}
use Rattle.group_coordinator.specs.Coordinators.{Groups, is_for}
use Rattle.group_coordinator.specs.Runs.{Act, replied, behind_all}
use Rattle.group_coordinator.specs.Runs.Act.{Ask, Release, End}
use Rattle.coordinator_laws.specs.Ids.{tally, tally_all}

-- how many members wait in a session, or have a reply ready for it
abbrev pub is_in_session : (session : ℕ) → Member → Bool
is_in_session k m = is_in k m.wait

abbrev pub count_waiting : (session : ℕ) → Groups → ℕ
count_waiting k v = tally_all (is_in_session k) v.groups + tally (is_for k) v.refused

-- whether an act is a request in this session
abbrev pub count_asked : (session : ℕ) → Act → ℕ
count_asked k (Ask j client q) = cond (j == k) 1 0
count_asked k a = 0

-- whether a reply goes out in this session
abbrev pub count_some : Option Reply → ℕ
count_some None = 0
count_some (Some r) = 1

abbrev pub count_replied : (session : ℕ) → Act → Groups → ℕ
count_replied k (Ask j client q) v = cond (j == k) (count_some (replied (Ask j client q) v)) 0
count_replied k (Release j) v = cond (j == k) (count_some (replied (Release j) v)) 0
count_replied k a v = 0

-- who asks waits for nothing
abbrev pub AsksWhileFree : Act → Groups → Type 0
AsksWhileFree (Ask k client q) v = count_waiting k v ≡ 0
AsksWhileFree a v = ⊤

abbrev pub AllAskWhileFree : Settings → List Act → Type 0
AllAskWhileFree o [] = ⊤
AllAskWhileFree o (a ∷ before) = AsksWhileFree a (behind_all o before) × AllAskWhileFree o before

-- whether an act is the end of this session
abbrev pub is_end : (session : ℕ) → Act → Bool
is_end k (End j) = j == k
is_end k a = false
