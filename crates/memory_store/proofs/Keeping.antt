-- What holds of the fields of a store after a call.
use Rattle.std.proofs.Common.{◌≡◌, ℕ, ◌+◌, ◌-◌, ◌^◌, ◌<◌, ◌≤◌, List, [], ◌∷◌, ◌++◌, length, map, min, max, nat_lt, replicate, Bool, Option, Some, refl, ap, sym, ◌∙◌, subst, arith}
use Rattle.std.proofs.Math.Path.{fun_ext}
use Rattle.std.proofs.lemmas.List.{append-nil, map-append}
use Rattle.std.specs.BTreeMap.{get}
use Rattle.std.specs.Cmp.Lexicographic.{slice_cmp}
use Rattle.std.specs.List.{IsDistinct}
use Rattle.std.specs.Ordering.{nat_cmp}
use Rattle.mesh_base.specs.Order.{same_bytes}
use Rattle.store_api.specs.Attached.{all_lapsed}
use Rattle.store_api.specs.Contents.{Contents, after_compact, after_keep_alive}
use Rattle.store_api.specs.History.{History, Pairs, revision, live_at, key_of, changes_of, with_revision}
use Rattle.store_api.specs.Leases.{LeaseTable, advanced, due_leases, expired, granted, renewed}
use Rattle.store_api.specs.declared.change.Change.{Change}
use Rattle.store_api.specs.declared.change.Op.{Op}
use Rattle.lease_clock.specs.Lapses.{IsNumbered}
use Rattle.lease_clock.proofs.CallerLemmas.{expired_none}
use Rattle.memory_store.specs.declared.live.Current.{Current}
use Rattle.memory_store.specs.declared.live.Made.{Made}
use Rattle.memory_store.specs.declared.entry.StoreEntry.{StoreEntry}
use Rattle.memory_store.specs.declared.entry.StoreEntry.TheVariants.{Committed, Granted, KeptAlive, Ticked, Compacted}
use Rattle.memory_store.specs.Effects.{moves, raises}
use Rattle.memory_store.specs.Entries.{StoreLog, after_entry, contents_of, noted_where}
use Rattle.memory_store.specs.Formed.{IsFormed}
use Rattle.memory_store.specs.Kept.{IsAfter, IsCurrentIn, IsKept, history_in, writers_in}
use Rattle.memory_store.specs.Stored.{leases_of, logged, with_compaction, with_entry, with_keep_alive}
use Rattle.memory_store.specs.Lapses.{AllLapse}
use Rattle.memory_store.specs.Writers.{added_by, writers_of}
use Rattle.memory_store.proofs.Calls.{contents_more}
use Rattle.memory_store.proofs.Effects.{contents_compacted, contents_kept_alive}
use Rattle.memory_store.proofs.Forms.{commits_keep, lapses_keep}
use Rattle.memory_store.proofs.Logs.{current_more, history_committed, history_length, history_pushed, with_some}
use Rattle.memory_store.proofs.Writing.{added_more, writers_joined, writers_more, writers_where}

-- the contents of these fields
abbrev pub contents_in : History → ℕ → LeaseTable → Contents
contents_in history compacted leases = record { history = history; compacted = compacted; leases = leases }

module _ (log new : StoreLog) (history : List Made) (compacted : ℕ) (leases : LeaseTable) (current : Option Current) (kept : IsKept log history compacted leases current) where
  -- the revision is that of the kept revisions
  pub revision_is : (size : ℕ) → size ≡ length history → let contents = contents_of log in size + 1 ≡ revision contents.history
  revision_is size is = ap (λ (n : ℕ). n + 1) (is ∙ sym (history_length history) ∙ ap (λ (c : Contents). length c.history) (sym kept.contents))

  after_one : (e : ℕ × StoreEntry) → new ≡ log ++ e ∷ [] → contents_of new ≡ after_entry (contents_in (history_in history) compacted leases) e.1
  after_one e is = ap contents_of is ∙ contents_more log e ∙ ap (λ (c : Contents). after_entry c e.1) kept.contents

  -- the writers with those of the revisions that an entry adds
  written : (e : ℕ × StoreEntry) (more : History) → new ≡ log ++ e ∷ [] → (after_entry (contents_in (history_in history) compacted leases) e.1).history ≡ history_in history ++ more
      → writers_in history ++ replicate (length more) e.0 ≡ writers_of new
  written e more is adds =
      ap (λ (ws : List ℕ). writers_in history ++ ws) (sym (ap (λ (c : Contents). added_by c e) kept.contents ∙ added_more (contents_in (history_in history) compacted leases) e more adds))
      ∙ ap (λ (ws : List ℕ). ws ++ added_by (contents_of log) e) kept.writers
      ∙ sym (ap writers_of is ∙ writers_more log e)

  -- an entry without revisions
  same_written : (e : ℕ × StoreEntry) → new ≡ log ++ e ∷ [] → (after_entry (contents_in (history_in history) compacted leases) e.1).history ≡ history_in history → writers_in history ≡ writers_of new
  same_written e is stays = sym (append-nil (writers_in history)) ∙ written e [] is (stays ∙ sym (append-nil (history_in history)))

  pub kept_granted : (writer seconds : ℕ) (later : LeaseTable) → new ≡ log ++ (writer, Granted seconds) ∷ [] → later ≡ granted seconds leases → IsKept new history compacted later current
  kept_granted writer seconds later is leases_are = record {
    contents = after_one (writer, Granted seconds) is ∙ ap (contents_in (history_in history) compacted) (sym leases_are);
    writers = same_written (writer, Granted seconds) is refl;
    few = kept.few;
    formed = kept.formed;
    current = kept.current;
  }

  -- a lease kept alive
  pub keep_logged : (effect : Bool) (writer lease : ℕ) → new ≡ noted_where effect log writer (KeptAlive lease) → effect ≡ moves leases lease → new ≡ with_keep_alive log writer lease
  keep_logged effect writer lease is effect_is =
      is ∙ ap (λ (b : Bool). noted_where b log writer (KeptAlive lease)) (effect_is ∙ ap (λ (c : Contents). moves c.leases lease) (sym kept.contents))

  pub numbered_in : IsNumbered 0 leases.live leases.last → let table = leases_of log in IsNumbered 0 table.live table.last
  numbered_in numbered = subst (λ (c : Contents). let table = c.leases in IsNumbered 0 table.live table.last) (sym kept.contents) numbered

  pub kept_renewed : (writer lease : ℕ) (later : LeaseTable) → new ≡ with_keep_alive log writer lease → later ≡ renewed lease leases → IsNumbered 0 leases.live leases.last → IsKept new history compacted later current
  kept_renewed writer lease later is leases_are numbered = record {
    contents = ap contents_of is ∙ contents_kept_alive log writer lease (numbered_in numbered) ∙ ap (after_keep_alive lease) kept.contents ∙ ap (contents_in (history_in history) compacted) (sym leases_are);
    writers = kept.writers ∙ sym (ap writers_of is ∙ writers_where (moves (leases_of log) lease) log writer (KeptAlive lease) refl);
    few = kept.few;
    formed = kept.formed;
    current = kept.current;
  }

  -- a compaction
  module _ (writer upto size later : ℕ) (size_is : size ≡ length history) (later_is : later ≡ max compacted (min upto (size + 1))) where
    compacted_is : (after_compact upto (contents_in (history_in history) compacted leases)).compacted ≡ later
    compacted_is = ap (λ (n : ℕ). max compacted (min upto (n + 1))) (history_length history ∙ sym size_is) ∙ sym later_is

    pub compact_logged : new ≡ noted_where (nat_lt compacted later) log writer (Compacted upto) → new ≡ with_compaction log writer upto
    compact_logged is =
        is ∙ ap (λ (b : Bool). noted_where b log writer (Compacted upto)) (ap (nat_lt compacted) (sym compacted_is) ∙ ap (λ (c : Contents). raises c upto) (sym kept.contents))

    pub kept_compacted : new ≡ with_compaction log writer upto → IsKept new history later leases current
    kept_compacted is = record {
      contents = ap contents_of is ∙ contents_compacted log writer upto ∙ ap (after_compact upto) kept.contents ∙ ap (λ (n : ℕ). contents_in (history_in history) n leases) compacted_is;
      writers = kept.writers ∙ sym (ap writers_of is ∙ writers_where (raises (contents_of log) upto) log writer (Compacted upto) refl);
      few = kept.few;
      formed = kept.formed;
      current = kept.current;
    }

  -- a tick at which no lease is due
  pub kept_quiet : (writer seconds : ℕ) (later : LeaseTable) → new ≡ log ++ (writer, Ticked seconds) ∷ [] → later ≡ advanced seconds leases → due_leases (advanced seconds leases) ≡ [] → IsKept new history compacted later current
  kept_quiet writer seconds later is leases_are none = record {
    contents = after_one (writer, Ticked seconds) is
        ∙ ap (λ (due : List ℕ). contents_in (all_lapsed (history_in history) due) compacted (expired (advanced seconds leases))) none
        ∙ ap (contents_in (history_in history) compacted) (expired_none (advanced seconds leases) none ∙ sym leases_are);
    writers = same_written (writer, Ticked seconds) is (ap (all_lapsed (history_in history)) none);
    few = kept.few;
    formed = kept.formed;
    current = kept.current;
  }

  -- a tick at which leases lapse
  pub kept_ticked : (writer seconds : ℕ) (due : List ℕ) (made later_history : List Made) (later : LeaseTable) (after : Current) → new ≡ log ++ (writer, Ticked seconds) ∷ [] → due ≡ due_leases (advanced seconds leases)
      → AllLapse (history_in history) due (history_in made) after → writers_in made ≡ replicate (length made) writer → later_history ≡ history ++ made → later ≡ expired (advanced seconds leases) → length later_history ≤ 2 ^ 63 - 2 → IsKept new later_history compacted later (Some after)
  kept_ticked writer seconds due made later_history later after is due_is lapse made_by pushed leases_are few =
      let lapsed_is : all_lapsed (history_in history) due ≡ history_in later_history = sym lapse.revisions_are ∙ sym (map-append (λ (m : Made). m.changes) history made) ∙ ap history_in (sym pushed) in
      record {
        contents = after_one (writer, Ticked seconds) is
            ∙ ap (λ (ds : List ℕ). contents_in (all_lapsed (history_in history) ds) compacted (expired (advanced seconds leases))) (sym due_is)
            ∙ ap (λ (h : History). contents_in h compacted (expired (advanced seconds leases))) lapsed_is
            ∙ ap (contents_in (history_in later_history) compacted) (sym leases_are);
        writers = ap writers_in pushed ∙ writers_joined history made
            ∙ ap (λ (ws : List ℕ). writers_in history ++ ws) (made_by ∙ ap (λ (n : ℕ). replicate n writer) (sym (history_length made)))
            ∙ written (writer, Ticked seconds) (history_in made) is (ap (all_lapsed (history_in history)) (sym due_is) ∙ sym lapse.revisions_are);
        few = few;
        formed = subst IsFormed lapsed_is (lapses_keep (history_in history) due kept.formed);
        current = subst (λ (h : History). IsCurrentIn h after) lapsed_is lapse.current;
      }

  -- a transaction that changes something
  module _ (writer : ℕ) (changes : List Change) (ops : List Op) (before : Current) (is : new ≡ log ++ (writer, Committed changes) ∷ []) (some : 0 < length changes)
      (are : changes ≡ changes_of (get (slice_cmp nat_cmp) before.live) ops) (lives : IsCurrentIn (history_in history) before) where
    some_logged : (cs : List Change) → 0 < length cs → log ++ (writer, Committed cs) ∷ [] ≡ with_entry log writer cs
    some_logged [] none = absurd (omega arith)
    some_logged (c ∷ cs) more = refl

    pub logged_is : new ≡ logged log writer ops
    logged_is =
        is ∙ some_logged changes some
        ∙ ap (with_entry log writer) (are ∙ ap (λ (live : Pairs). changes_of live ops) (fun_ext lives.live) ∙ ap (λ (c : Contents). let h = c.history in changes_of (live_at h (revision h)) ops) (sym kept.contents))

    pub kept_committed : (made : Made) (later : List Made) (after : Current) → made.changes ≡ changes → made.writer ≡ writer → later ≡ history ++ made ∷ [] → IsAfter changes before after → length later ≤ 2 ^ 63 - 2 → IsDistinct same_bytes (map key_of ops)
        → IsKept new later compacted leases (Some after)
    kept_committed made later after made_is made_by pushed changed few distinct =
        let more : history_in history ++ changes ∷ [] ≡ history_in later = sym (ap history_in pushed ∙ history_pushed history made ∙ ap (λ (cs : List Change). history_in history ++ cs ∷ []) made_is) in
        let grown : with_revision (history_in history) changes ≡ history_in later = with_some (history_in history) changes some ∙ more in
        record {
          contents = after_one (writer, Committed changes) is ∙ ap (λ (h : History). contents_in h compacted leases) grown;
          writers = ap writers_in pushed ∙ writers_joined history (made ∷ []) ∙ ap (λ (w : ℕ). writers_in history ++ w ∷ []) made_by ∙ written (writer, Committed changes) (changes ∷ []) is (with_some (history_in history) changes some);
          few = few;
          formed = subst IsFormed (sym (history_committed (history_in history) changes before.live ops are lives.live) ∙ grown) (commits_keep (history_in history) ops kept.formed distinct);
          current = subst (λ (h : History). IsCurrentIn h after) more (current_more (history_in history) changes before after lives changed);
        }
