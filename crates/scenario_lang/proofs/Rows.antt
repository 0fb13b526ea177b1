-- What holds of every line of each row.
use Rattle.std.proofs.Common.{◌≡◌, ◌<◌, ◌≤◌, ℕ, refl, codes}
use Rattle.scenario_lang.specs.declared.entry.Entry.{Entry}
use Rattle.scenario_lang.specs.declared.entry.Entry.TheVariants as entry
use Rattle.scenario_lang.specs.declared.scenario.Action.{Action}
use Rattle.scenario_lang.specs.declared.scenario.Action.TheVariants as action
use Rattle.scenario_lang.specs.declared.verb.Place.{Place}
use Rattle.scenario_lang.specs.declared.verb.Place.TheVariants as place
use Rattle.scenario_lang.specs.declared.verb.Verb.{Verb}
use Rattle.scenario_lang.specs.declared.verb.Verb.TheVariants as verb
use Rattle.scenario_lang.specs.Forms.{version, cluster, remote, part, cluster_number, seconds, revision, skip, identity, store, count_or_all, address, hop, labels, link, way, moment}
use Rattle.scenario_lang.specs.Shapes.{Shape, makes, none, one, ◌▸◌, word, many}
use Rattle.scenario_lang.specs.Table.{row, host_and_pod, withdrawn_record, raw_write}
use Rattle.scenario_lang.specs.Valid.{IsActionOf, IsStoreOf, IsClusterNumber, IsToBillion, IsCount}
use Rattle.scenario_lang.proofs.Shapely.{HoldsAll, any, alone, before, beside, behind, made, remote_in, store_in, seconds_in, revision_in, skip_in, number_in, count_in}

-- a line of this part of a text, of a text with so many remotes
abbrev pub IsEntryAt : Place → ℕ → Entry → Type 0
IsEntryAt at n entry.Mesh = at ≡ place.Mesh
IsEntryAt at n (entry.Local c) = (at ≡ place.Local) × IsClusterNumber c.number
IsEntryAt at n (entry.Lease seconds) = (at ≡ place.Lease) × IsToBillion seconds
IsEntryAt at n (entry.Remote r) = (at ≡ place.Remotes) × IsClusterNumber r.number
IsEntryAt at n (entry.Act a) = IsActionOf n a

acted : {A : Type 0} {P : ℕ → A → Type 0} (m : A → Action) (shape : Shape A) → HoldsAll P shape → ((n : ℕ) (x : A) → P n x → IsActionOf n (m x)) → HoldsAll (IsEntryAt place.Actions) (makes entry.Act (makes m shape))
acted {P = P} m shape h f = made IsActionOf (IsEntryAt place.Actions) entry.Act (makes m shape) (made P IsActionOf m shape h f) (λ n a g. g)

pub row_holds : (v : Verb) → HoldsAll (IsEntryAt (row v).place) (row v).line
unfolding row
row_holds verb.Mesh = made (λ n x. Unit {0}) (IsEntryAt place.Mesh) (λ _. entry.Mesh) (one version) (any (one version)) (λ n x h. refl)
row_holds verb.Local = made (λ n p. Unit {0} × IsClusterNumber p.1) (IsEntryAt place.Local) (λ p. entry.Local (record { name = p.0; number = p.1 })) (cluster ▸ one cluster_number)
    (beside (λ n x. Unit {0}) (λ n x. IsClusterNumber x) cluster (one cluster_number) (record { word = λ draft w x e. tt }) (alone (λ n x. IsClusterNumber x) cluster_number number_in)) (λ n x h. (refl, h.1))
row_holds verb.Lease = made (λ n x. IsToBillion x) (IsEntryAt place.Lease) entry.Lease (one seconds) (alone (λ n x. IsToBillion x) seconds seconds_in) (λ n x h. (refl, h))
row_holds verb.Remote = made (λ n p. Unit {0} × IsClusterNumber p.1.0) (IsEntryAt place.Remotes) (λ p. entry.Remote (record { name = p.0; number = p.1.0; hop = p.1.1 })) (cluster ▸ cluster_number ▸ one hop)
    (beside (λ n x. Unit {0}) (λ n p. IsClusterNumber p.0) cluster (cluster_number ▸ one hop) (record { word = λ draft w x e. tt }) (before (λ n x. IsClusterNumber x) cluster_number (one hop) number_in)) (λ n x h. (refl, h.1))
row_holds verb.Node = acted (λ p. action.Node p.0 p.1.0 p.1.1) (remote ▸ part ▸ many address) (before (λ n p. p < n) remote (part ▸ many address) remote_in) (λ n p h. h)
row_holds verb.Identity = acted (λ p. action.Identity p.0 p.1.0 p.1.1) (remote ▸ identity ▸ one labels) (before (λ n p. p < n) remote (identity ▸ one labels) remote_in) (λ n p h. h)
row_holds verb.Address = acted (λ p. action.Address p.0 p.1.0 p.1.1.0 p.1.1.1.0 p.1.1.1.1) (remote ▸ address ▸ identity ▸ host_and_pod) (before (λ n p. p < n) remote (address ▸ identity ▸ host_and_pod) remote_in) (λ n p h. h)
row_holds verb.Withdraw = acted (λ p. action.Withdraw p.0 p.1) (remote ▸ withdrawn_record) (before (λ n p. p < n) remote withdrawn_record remote_in) (λ n p h. h)
row_holds verb.Start = acted action.Start (one remote) (alone (λ n p. p < n) remote remote_in) (λ n p h. h)
row_holds verb.Stop = acted action.Stop (one remote) (alone (λ n p. p < n) remote remote_in) (λ n p h. h)
row_holds verb.Keep = acted action.Keep (one remote) (alone (λ n p. p < n) remote remote_in) (λ n p h. h)
row_holds verb.Export = acted (λ p. action.Export p.0 p.1) (remote ▸ one count_or_all) (beside (λ n p. p < n) (λ n c. IsCount c) remote (one count_or_all) remote_in (alone (λ n c. IsCount c) count_or_all count_in)) (λ n p h. h)
row_holds verb.Raw = acted (λ p. action.Raw p.0 p.1) (remote ▸ raw_write) (before (λ n p. p < n) remote raw_write remote_in) (λ n p h. h)
row_holds verb.Tick = acted action.Tick (one seconds) (alone (λ n x. IsToBillion x) seconds seconds_in) (λ n p h. h)
row_holds verb.Compact = acted (λ p. action.Compact p.0 p.1) (store ▸ one revision) (beside (λ n x. IsStoreOf n x) (λ n x. IsToBillion x) store (one revision) store_in (alone (λ n x. IsToBillion x) revision revision_in)) (λ n p h. h)
row_holds verb.Link = acted (λ p. action.Link p.0 p.1.0 p.1.1) (remote ▸ link ▸ one way) (before (λ n p. p < n) remote (link ▸ one way) remote_in) (λ n p h. h)
row_holds verb.Fail = acted (λ p. action.Fail p.0 p.1.0 p.1.1.0 p.1.1.1) (remote ▸ link ▸ skip ▸ one moment)
    (beside (λ n p. p < n) (λ n p. Unit {0} × (p.1.0 ≤ 1000000)) remote (link ▸ skip ▸ one moment) remote_in
    (beside (λ n x. Unit {0}) (λ n p. p.0 ≤ 1000000) link (skip ▸ one moment) (record { word = λ draft w x e. tt }) (before (λ n x. x ≤ 1000000) skip (one moment) skip_in))) (λ n p h. (h.0, h.1.1))
row_holds verb.Turn =
    let turned = makes (λ p. action.Turn p.0 p.1) (remote ▸ one count_or_all) in
    made IsActionOf (IsEntryAt place.Actions) entry.Act (word (codes "agent") turned)
    (behind IsActionOf (codes "agent") turned (made (λ n p. (p.0 < n) × IsCount p.1) IsActionOf (λ p. action.Turn p.0 p.1) (remote ▸ one count_or_all)
    (beside (λ n p. p < n) (λ n c. IsCount c) remote (one count_or_all) remote_in (alone (λ n c. IsCount c) count_or_all count_in)) (λ n p h. h))) (λ n a h. h)
row_holds verb.Restart =
    let begun = makes (λ _. action.RestartAgent) none in
    made IsActionOf (IsEntryAt place.Actions) entry.Act (word (codes "agent") begun)
    (behind IsActionOf (codes "agent") begun (made (λ n x. Unit {0}) IsActionOf (λ _. action.RestartAgent) none (any none) (λ n x h. tt))) (λ n a h. h)
row_holds verb.Report = acted (λ _. action.Report) none (any none) (λ n p h. tt)
