-- The calls of an exporter are its talks.
use Rattle.std.proofs.Common.{◌≡◌, ℕ, suc, List, [], ◌∷◌, cond, true, false, Option, None, Some, Result, Ok, Err, refl, sym, ap, subst, ◌∙◌}
use Rattle.std.specs.FinMap.{get}
use Rattle.std.specs.Result.{IsErrAnd}
use Rattle.key_paths.specs.Paths.{config_key, mark_key}
use Rattle.key_paths.specs.declared.hop.Hop.TheVariants.{State}
use Rattle.store_api.specs.Calls.{Request, Ending, Answers, Refuses, IsLost, Crosses, Heard, Answered, Refused, Missed, HeardOf, Ends, Asks, Talked, Comes, on_store, to_commit, to_grant, to_keep_alive}
use Rattle.store_api.specs.Contents.{dead_lease, first_some}
use Rattle.store_api.specs.Leases.{LeaseTable, is_live_lease}
use Rattle.store_api.specs.Meaning.{Meaning}
use Rattle.store_api.specs.declared.change.Op.TheVariants as op
use Rattle.store_api.proofs.Calls.{comes_none, comes_more, comes_last}
use Rattle.exporter.specs.State.{Export, after_item, after_start, after_stop, config_value, mark_value, next_ops, ops_of, record_op}
use Rattle.exporter.specs.Talks.{Came, ExportTalk, all_done, exported_by, export_talk, keep_talk, keep_under, kept_by, lost, refused_under, start_talk, started_by}
use Rattle.exporter.specs.declared.fault.ExportFault.{ExportFault}
use Rattle.exporter.specs.declared.item.Item.{Item}
use Rattle.exporter.specs.declared.item.Item.TheVariants as item
use Rattle.exporter.specs.declared.fault.ExportFault.TheVariants.{Lost, NoLease}

-- a commit that is refused names the exporter's lease
put_names : (table : LeaseTable) (key value : List ℕ) (named : Option ℕ) (lease : ℕ) → dead_lease table (op.Put key value named ∷ []) ≡ Some lease → named ≡ Some lease
put_names table key value None lease e = cc
put_names table key value (Some n) lease e = elim (is_live_lease table.live n) as (λ b. first_some (cond b None (Some n)) None ≡ Some lease → Some n ≡ Some lease) [ true ↦ (λ f. cc) | false ↦ (λ f. f) ] e

record_names : (table : LeaseTable) (key : List ℕ) (value : Option (List ℕ)) (named : Option ℕ) (lease : ℕ) → dead_lease table (record_op key value named ∷ []) ≡ Some lease → named ≡ Some lease
record_names table key None named lease e = cc
record_names table key (Some value) named lease e = put_names table key value named lease e

item_names : (table : LeaseTable) (s : Export) (queue : List Item) (lease : ℕ) → dead_lease table (ops_of s queue) ≡ Some lease → s.lease ≡ Some lease
item_names table s [] lease e = cc
item_names table s (item.Config ∷ queue) lease e = put_names table (config_key s.cluster) (config_value s.number) s.lease lease e
item_names table s (item.Record key ∷ queue) lease e = record_names table key (get s.declared key) s.lease lease e
item_names table s (item.Mark kind ∷ queue) lease e = put_names table (mark_key s.cluster State kind) mark_value s.lease lease e

pub names_own : (table : LeaseTable) (s : Export) (lease : ℕ) → dead_lease table (next_ops s) ≡ Some lease → s.lease ≡ Some lease
names_own table s lease e = item_names table s s.queue lease e

-- the one fault that an answer has
pub err_is : {T : Type 0} (result : Result T ExportFault) (fault : ExportFault) → IsErrAnd result (λ e. e ≡ fault) → result ≡ Err fault
err_is (Ok value) fault is = absurd is
err_is (Err e) fault is = ap Err is

pub one_fault : {T : Type 0} (result : Result T ExportFault) (fault other : ExportFault) → result ≡ Err fault → result ≡ Err other → fault ≡ other
one_fault result fault other e f = cc

-- no fault is none
none_some : (fault : ExportFault) → None ≡ Some fault → ⊥
none_some fault e = cc

module _ {V : Type 0} (meaning : V → Meaning) (between : V → V → Request → Ending → Type 0) where
  abbrev calls : Unit {0} → Request → V → V → Heard → Type 0
  calls = on_store {W = Unit {0}} meaning between

  -- a talk of one call
  one_call : (request : Request) (next : Heard → ExportTalk) (end : Ending) (heard : Heard) (came : Came) (old new : V) → (h : HeardOf meaning between request old new heard) → next heard ≡ Ends came → Talked calls (Asks tt request next) old new came
  one_call request next end heard came old new h ends =
      comes_last calls (Asks tt request next) tt request next old old new heard came (comes_none calls (Asks tt request next) old) h ends

  answers : (request : Request) (old new : V) → Crosses meaning between request Answers old new → HeardOf meaning between request old new (Answered (meaning new).contents)
  answers request old new call = record { end = Answers; call = call; hears = refl }

  refuses : (request : Request) (old new : V) → Crosses meaning between request Refuses old new → HeardOf meaning between request old new (Refused (meaning new).contents)
  refuses request old new call = record { end = Refuses; call = call; hears = refl }

  misses : (request : Request) (old new : V) → Crosses meaning between request IsLost old new → HeardOf meaning between request old new Missed
  misses request old new call = record { end = IsLost; call = call; hears = refl }

  pub start_answered : (s s' : Export) (old new : V) → s' ≡ after_start (meaning new).contents.leases.last s → Crosses meaning between (to_grant s.seconds) Answers old new → Talked calls (start_talk s) old new (record { exporter = s'; fault = None })
  start_answered s s' old new is call = one_call (to_grant s.seconds) (started_by s) Answers (Answered (meaning new).contents) (record { exporter = s'; fault = None }) old new (answers (to_grant s.seconds) old new call) (ap all_done (sym is))

  pub start_lost : (s s' : Export) (old new : V) → s' ≡ s → Crosses meaning between (to_grant s.seconds) IsLost old new → Talked calls (start_talk s) old new (record { exporter = s'; fault = Some Lost })
  start_lost s s' old new is call = one_call (to_grant s.seconds) (started_by s) IsLost Missed (record { exporter = s'; fault = Some Lost }) old new (misses (to_grant s.seconds) old new call) (ap lost (sym is))

  -- without a lease
  pub unkept : (s s' : Export) (old new : V) → s.lease ≡ None → s' ≡ s → new ≡ old → Talked calls (keep_talk s) old new (record { exporter = s'; fault = None })
  unkept s s' old new none is same = subst (λ (lease : Option ℕ). Talked calls (keep_under lease s) old new (record { exporter = s'; fault = None })) (sym none) (same, ap (λ (t : Export). record { exporter = t; fault = None }) is)

  under : (lease : ℕ) (s : Export) (came : Came) (old new : V) → s.lease ≡ Some lease → Talked calls (keep_under (Some lease) s) old new came → Talked calls (keep_talk s) old new came
  under lease s came old new is talked = subst (λ (l : Option ℕ). Talked calls (keep_under l s) old new came) (sym is) talked

  pub keep_answered : (lease : ℕ) (s s' : Export) (old new : V) → s.lease ≡ Some lease → s' ≡ s → Crosses meaning between (to_keep_alive lease) Answers old new → Talked calls (keep_talk s) old new (record { exporter = s'; fault = None })
  keep_answered lease s s' old new some is call = under lease s (record { exporter = s'; fault = None }) old new some
      (one_call (to_keep_alive lease) (kept_by lease s) Answers (Answered (meaning new).contents) (record { exporter = s'; fault = None }) old new (answers (to_keep_alive lease) old new call) (ap all_done (sym is)))

  pub keep_refused : (lease : ℕ) (s s' : Export) (old new : V) → s.lease ≡ Some lease → s' ≡ after_stop s → Crosses meaning between (to_keep_alive lease) Refuses old new → Talked calls (keep_talk s) old new (record { exporter = s'; fault = Some (NoLease lease) })
  keep_refused lease s s' old new some is call = under lease s (record { exporter = s'; fault = Some (NoLease lease) }) old new some
      (one_call (to_keep_alive lease) (kept_by lease s) Refuses (Refused (meaning new).contents) (record { exporter = s'; fault = Some (NoLease lease) }) old new (refuses (to_keep_alive lease) old new call)
      (ap (λ (t : Export). Ends (record { exporter = t; fault = Some (NoLease lease) })) (sym is)))

  pub keep_lost : (lease : ℕ) (s s' : Export) (old new : V) → s.lease ≡ Some lease → s' ≡ s → Crosses meaning between (to_keep_alive lease) IsLost old new → Talked calls (keep_talk s) old new (record { exporter = s'; fault = Some Lost })
  keep_lost lease s s' old new some is call = under lease s (record { exporter = s'; fault = Some Lost }) old new some
      (one_call (to_keep_alive lease) (kept_by lease s) IsLost Missed (record { exporter = s'; fault = Some Lost }) old new (misses (to_keep_alive lease) old new call) (ap lost (sym is)))

  pub item_answered : (s s' : Export) (old new : V) → s' ≡ after_item s → Crosses meaning between (to_commit (next_ops s)) Answers old new → Talked calls (export_talk 1 s) old new (record { exporter = s'; fault = None })
  item_answered s s' old new is call = one_call (to_commit (next_ops s)) (exported_by (all_done (after_item s)) s) Answers (Answered (meaning new).contents) (record { exporter = s'; fault = None }) old new (answers (to_commit (next_ops s)) old new call) (ap all_done (sym is))

  pub item_refused : (lease : ℕ) (s s' : Export) (old new : V) → s.lease ≡ Some lease → s' ≡ after_stop s → Crosses meaning between (to_commit (next_ops s)) Refuses old new → Talked calls (export_talk 1 s) old new (record { exporter = s'; fault = Some (NoLease lease) })
  item_refused lease s s' old new some is call = one_call (to_commit (next_ops s)) (exported_by (all_done (after_item s)) s) Refuses (Refused (meaning new).contents) (record { exporter = s'; fault = Some (NoLease lease) }) old new (refuses (to_commit (next_ops s)) old new call)
      (ap (λ (l : Option ℕ). refused_under l s) some ∙ ap (λ (t : Export). Ends (record { exporter = t; fault = Some (NoLease lease) })) (sym is))

  pub item_lost : (s s' : Export) (old new : V) → s' ≡ s → Crosses meaning between (to_commit (next_ops s)) IsLost old new → Talked calls (export_talk 1 s) old new (record { exporter = s'; fault = Some Lost })
  item_lost s s' old new is call = one_call (to_commit (next_ops s)) (exported_by (all_done (after_item s)) s) IsLost Missed (record { exporter = s'; fault = Some Lost }) old new (misses (to_commit (next_ops s)) old new call) (ap lost (sym is))

  -- an item that was not written stopped the export
  never_none : (lease : Option ℕ) (s t : Export) (old new : V) → Talked calls (refused_under lease s) old new (record { exporter = t; fault = None }) → ⊥
  never_none None s t old new talked = absurd (none_some Lost (ap (λ (came : Came). came.fault) talked.1))
  never_none (Some lease) s t old new talked = absurd (none_some (NoLease lease) (ap (λ (came : Came). came.fault) talked.1))

  -- one item more was written
  pub item_more : (n : ℕ) (talk : ExportTalk) (s s' : Export) (old mid new : V) → Comes calls talk old (export_talk (suc n) s) mid → Talked calls (export_talk 1 s) mid new (record { exporter = s'; fault = None }) → Comes calls talk old (export_talk n (after_item s)) new
  item_more n talk s s' old mid new so_far (Answered c, here, call, ends) =
      subst (λ (v : V). Comes calls talk old (export_talk n (after_item s)) v) (sym ends.0)
      (comes_more calls talk tt (to_commit (next_ops s)) (exported_by (export_talk n (after_item s)) s) old mid here (Answered c) so_far call)
  item_more n talk s s' old mid new so_far (Refused c, here, call, ends) = absurd (never_none s.lease s s' here new ends)
  item_more n talk s s' old mid new so_far (Missed, here, call, ends) = absurd (none_some Lost (ap (λ (came : Came). came.fault) ends.1))

  -- the item that was refused or lost ended the talk
  pub item_last : (n : ℕ) (talk : ExportTalk) (s s' : Export) (fault : ExportFault) (old mid new : V) → Comes calls talk old (export_talk (suc n) s) mid → Talked calls (export_talk 1 s) mid new (record { exporter = s'; fault = Some fault }) → Talked calls talk old new (record { exporter = s'; fault = Some fault })
  item_last n talk s s' fault old mid new so_far (Answered c, here, call, ends) = absurd (none_some fault (sym (ap (λ (came : Came). came.fault) ends.1)))
  item_last n talk s s' fault old mid new so_far (Refused c, here, call, ends) = so_far.on new (record { exporter = s'; fault = Some fault }) (Refused c, here, call, ends)
  item_last n talk s s' fault old mid new so_far (Missed, here, call, ends) = so_far.on new (record { exporter = s'; fault = Some fault }) (Missed, here, call, ends)

  -- no item is left
  pub item_none : (talk : ExportTalk) (s s' : Export) (old new : V) → s' ≡ s → Comes calls talk old (all_done s) new → Talked calls talk old new (record { exporter = s'; fault = None })
  item_none talk s s' old new is so_far = so_far.on new (record { exporter = s'; fault = None }) (refl, ap (λ (t : Export). record { exporter = t; fault = None }) is)

  -- what no item is left of
  pub none_yet : (n : ℕ) (s : Export) (old : V) → Comes calls (export_talk n s) old (export_talk n s) old
  none_yet n s old = comes_none calls (export_talk n s) old
