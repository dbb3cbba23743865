-- Worked rows: what a policy gives behind some calls, the latest first, at a time, and when it wants to be asked again. Each was computed
-- by another program too.
use Rattle.std.proofs.Common.{◌≡◌, ℕ, List, [], ◌∷◌, refl}
use Rattle.std.specs.Prelude.{pos, Option, Some, None}
use Rattle.std.specs.Option.{option_map}
use Rattle.cleaning_policy.specs.declared.values.Frame.{Frame}
use Rattle.cleaning_policy.specs.declared.values.Settings.{Settings}
use Rattle.cleaning_policy.specs.Samples.{asked_samples}
use Rattle.cleaning_policy.specs.Policies.{next_pass, due_at}
use Rattle.cleaning_policy.specs.Histories.{Call, behind}
use Rattle.cleaning_policy.specs.Histories.Call.{Add, Tell, PutBack, Next, Clean, GiveUp}

abbrev GivesThen : Settings → List Call → ℕ → Option Frame → Option ℕ → Type 0
GivesThen o calls now frame due =
    (option_map (λ q. q.frame) (next_pass now (behind o calls) (behind o calls).pass) ≡ frame) × (due_at now (behind o calls) ≡ due)

row_1 : GivesThen (record { percent = 50; lag = 80; within = 130; keep_deletes = 1000 }) ((Tell 1482 0 (record { start = pos 0; end = pos 3; bytes = 0 })) ∷ (Tell 1462 1 (record { start = pos 0; end = pos 10; bytes = 239500 })) ∷ (Tell 1261 1 (record { start = pos 0; end = pos 0; bytes = 240000 })) ∷ (Next 1201) ∷ (Tell 1001 1 (record { start = pos 0; end = pos 0; bytes = 200000 })) ∷ (Add 1000) ∷ (Add 1000) ∷ []) 1982 (Some (record { partition = 0; upto = pos 3; tomb_before = pos 0 })) None
unfolding asked_samples
row_1 = (refl, refl)

row_2 : GivesThen (record { percent = 1; lag = 0; within = 50; keep_deletes = 100 }) ((Clean 1283 7) ∷ (Tell 1282 0 (record { start = pos 0; end = pos 16; bytes = 600000 })) ∷ (Clean 1222 7) ∷ (Clean 1202 7) ∷ (Tell 1002 0 (record { start = pos 0; end = pos 13; bytes = 400000 })) ∷ (Tell 1001 0 (record { start = pos 0; end = pos 3; bytes = 200000 })) ∷ (Add 1000) ∷ []) 1783 (Some (record { partition = 0; upto = pos 16; tomb_before = pos 0 })) None
unfolding asked_samples
row_2 = (refl, refl)

row_3 : GivesThen (record { percent = 99; lag = 80; within = 130; keep_deletes = 1000 }) ((Tell 1301 0 (record { start = pos 0; end = pos 33; bytes = 239500 })) ∷ (Tell 1281 0 (record { start = pos 0; end = pos 23; bytes = 240000 })) ∷ (Tell 1260 0 (record { start = pos 0; end = pos 13; bytes = 40000 })) ∷ (Tell 1060 0 (record { start = pos 0; end = pos 10; bytes = 0 })) ∷ (Add 1000) ∷ []) 1461 (Some (record { partition = 0; upto = pos 33; tomb_before = pos 0 })) None
unfolding asked_samples
row_3 = (refl, refl)

row_4 : GivesThen (record { percent = 99; lag = 80; within = 130; keep_deletes = 0 }) ((Tell 1262 1 (record { start = pos 0; end = pos 13; bytes = 100 })) ∷ (Tell 1062 1 (record { start = pos 0; end = pos 10; bytes = 0 })) ∷ (Next 1042) ∷ (Tell 1041 1 (record { start = pos 0; end = pos 0; bytes = 0 })) ∷ (Next 1021) ∷ (Clean 1020 7) ∷ (Add 1000) ∷ (Add 1000) ∷ []) 1263 (Some (record { partition = 1; upto = pos 10; tomb_before = pos 0 })) (Some 1342)
unfolding asked_samples
row_4 = (refl, refl)

row_5 : GivesThen (record { percent = 1; lag = 80; within = 5080; keep_deletes = 0 }) ((Clean 1342 7) ∷ (Tell 1322 0 (record { start = pos 0; end = pos 10; bytes = 39000 })) ∷ (Tell 1202 0 (record { start = pos 0; end = pos 0; bytes = 39500 })) ∷ (Tell 1201 0 (record { start = pos 0; end = pos 0; bytes = 40000 })) ∷ (PutBack 1200 0 (record { older = Some (record { upto = pos 3; ended = 1150 }); newest = Some (record { upto = pos 5; ended = 1220 }); used = pos 2; reached = pos 4; began = 1130; size = 100 })) ∷ (Add 1000) ∷ []) 1343 None (Some 1402)
unfolding asked_samples
row_5 = (refl, refl)

row_6 : GivesThen (record { percent = 1; lag = 0; within = 5000; keep_deletes = 100 }) ((Clean 1662 7) ∷ (Tell 1661 0 (record { start = pos 0; end = pos 12; bytes = 240200 })) ∷ (Tell 1461 0 (record { start = pos 0; end = pos 9; bytes = 40200 })) ∷ (Tell 1261 1 (record { start = pos 0; end = pos 0; bytes = 100 })) ∷ (Tell 1201 0 (record { start = pos 0; end = pos 6; bytes = 200 })) ∷ (Tell 1001 0 (record { start = pos 0; end = pos 3; bytes = 100 })) ∷ (Add 1000) ∷ (Add 1000) ∷ []) 1762 (Some (record { partition = 0; upto = pos 12; tomb_before = pos 0 })) (Some 6000)
unfolding asked_samples
row_6 = (refl, refl)

row_7 : GivesThen (record { percent = 1; lag = 400; within = 5400; keep_deletes = 0 }) ((Tell 1404 0 (record { start = pos 0; end = pos 10; bytes = 279500 })) ∷ (Tell 1204 0 (record { start = pos 0; end = pos 10; bytes = 239500 })) ∷ (Clean 1203 7) ∷ (Tell 1202 0 (record { start = pos 0; end = pos 10; bytes = 240000 })) ∷ (Next 1002) ∷ (Tell 1001 0 (record { start = pos 0; end = pos 0; bytes = 200000 })) ∷ (Add 1000) ∷ []) 1904 (Some (record { partition = 0; upto = pos 10; tomb_before = pos 0 })) (Some 6400)
unfolding asked_samples
row_7 = (refl, refl)

row_8 : GivesThen (record { percent = 50; lag = 400; within = 5400; keep_deletes = 0 }) ((Tell 1600 0 (record { start = pos 0; end = pos 13; bytes = 240000 })) ∷ (Next 1400) ∷ (Next 1200) ∷ (Tell 1140 0 (record { start = pos 0; end = pos 10; bytes = 200000 })) ∷ (Tell 1120 0 (record { start = pos 0; end = pos 10; bytes = 0 })) ∷ (Clean 1060 7) ∷ (Add 1000) ∷ []) 2100 (Some (record { partition = 0; upto = pos 13; tomb_before = pos 0 })) (Some 6400)
unfolding asked_samples
row_8 = (refl, refl)

row_9 : GivesThen (record { percent = 50; lag = 0; within = 5000; keep_deletes = 1000 }) ((Tell 1603 0 (record { start = pos 0; end = pos 13; bytes = 239500 })) ∷ (Tell 1403 0 (record { start = pos 0; end = pos 10; bytes = 240000 })) ∷ (Clean 1402 7) ∷ (Next 1401) ∷ (Tell 1201 0 (record { start = pos 0; end = pos 0; bytes = 200000 })) ∷ (Tell 1001 0 (record { start = pos 0; end = pos 0; bytes = 0 })) ∷ (Add 1000) ∷ []) 1604 (Some (record { partition = 0; upto = pos 13; tomb_before = pos 0 })) (Some 6000)
unfolding asked_samples
row_9 = (refl, refl)

row_10 : GivesThen (record { percent = 50; lag = 0; within = 50; keep_deletes = 100 }) ((Tell 1181 0 (record { start = pos 0; end = pos 10; bytes = 40100 })) ∷ (Clean 1161 7) ∷ (Tell 1080 1 (record { start = pos 0; end = pos 10; bytes = 40000 })) ∷ (Tell 1060 0 (record { start = pos 0; end = pos 10; bytes = 40000 })) ∷ (Add 1000) ∷ (Add 1000) ∷ []) 1681 (Some (record { partition = 0; upto = pos 10; tomb_before = pos 0 })) None
unfolding asked_samples
row_10 = (refl, refl)

row_11 : GivesThen (record { percent = 1; lag = 80; within = 130; keep_deletes = 100 }) ((Tell 1323 1 (record { start = pos 0; end = pos 13; bytes = 40000 })) ∷ (Tell 1322 0 (record { start = pos 0; end = pos 3; bytes = 100 })) ∷ (Clean 1262 7) ∷ (GiveUp 1062) ∷ (Next 1002) ∷ (Tell 1001 1 (record { start = pos 0; end = pos 10; bytes = 0 })) ∷ (Add 1000) ∷ (Add 1000) ∷ []) 1823 (Some (record { partition = 0; upto = pos 3; tomb_before = pos 0 })) None
unfolding asked_samples
row_11 = (refl, refl)

row_12 : GivesThen (record { percent = 99; lag = 80; within = 130; keep_deletes = 1000 }) ((Clean 1181 7) ∷ (Tell 1121 1 (record { start = pos 0; end = pos 10; bytes = 240000 })) ∷ (Tell 1061 0 (record { start = pos 0; end = pos 6; bytes = 199500 })) ∷ (Tell 1041 0 (record { start = pos 0; end = pos 3; bytes = 200000 })) ∷ (Clean 1021 7) ∷ (Tell 1001 1 (record { start = pos 0; end = pos 10; bytes = 200000 })) ∷ (Add 1000) ∷ (Add 1000) ∷ []) 1681 (Some (record { partition = 0; upto = pos 6; tomb_before = pos 0 })) None
unfolding asked_samples
row_12 = (refl, refl)
