-- Changes of remotes without a call on a store.
use Rattle.std.proofs.Common.{◌≡◌, ℕ, zero, suc, ◌+◌, ◌<◌, ◌≤◌, List, [], ◌∷◌, length, map, drop, get_or, refl, ap, sym, ◌∙◌, subst, arith, Bool, true, false, if◌then◌else◌, is_some}
use Rattle.std.specs.FinMap.{contains_key, insert, remove}
use Rattle.std.specs.List.{IsDistinct}
use Rattle.std.specs.Vec.{with_item}
use Rattle.std.proofs.Math.ListN.{set}
use Rattle.std.proofs.Math.Seq.{map-set_same}
use Rattle.std.proofs.lemmas.List.{length-set}
use Rattle.mesh_base.specs.Order.{same_bytes}
use Rattle.exporter.specs.State.{Export, after_declare, after_withdraw, waiting, with_key}
use Rattle.scenario_lang.specs.declared.scenario.LinkName.{LinkName}
use Rattle.scenario_lang.specs.declared.scenario.LinkName.TheVariants as link
use Rattle.flaky_link.specs.Link.{Link}
use Rattle.store_api.specs.Contents.{Contents, empty_contents}
use Rattle.mesh_world.specs.Actions.{Does}
use Rattle.mesh_world.specs.Asking.{Outcome}
use Rattle.mesh_remote.specs.Shown.{Changes, IsShown}
use Rattle.scenario_replay.specs.Shown.{AreShown, HasWorld, MakesPlainly}
use Rattle.mesh_world.specs.World as world
use Rattle.mesh_world.specs.World.{World, at_remote, no_remote, with_link}
use Rattle.mesh_remote.specs.declared.remote.Remote.{Remote}
use Rattle.scenario_replay.specs.declared.replay.Replay.{Replay}
use Rattle.scenario_replay.proofs.Places.{as_many, shown_at}
use Rattle.mesh_world.proofs.Runs.{Leads-none}

abbrev pub cluster_of : Remote → List ℕ
cluster_of r = r.exporter.cluster

-- the change leaves the cluster's name
abbrev pub KeepsName : (world.Remote → world.Remote) → Type 0
KeepsName f = (w : world.Remote) → (f w).exporter.cluster ≡ w.exporter.cluster

if_cluster : (b : Bool) (x y : Export) (name : List ℕ) → x.cluster ≡ name → y.cluster ≡ name → (if b then x else y).cluster ≡ name
if_cluster true x y name hx hy = hx
if_cluster false x y name hx hy = hy

pub declare_keeps : (key value : List ℕ) (s : Export) → (after_declare key value s).cluster ≡ s.cluster
declare_keeps key value s =
    let t : Export = record s { declared = insert s.declared key value } in
    if_cluster (is_some s.lease) (record t { queue = with_key key t.queue }) t s.cluster refl refl

pub withdraw_keeps : (key : List ℕ) (s : Export) → (after_withdraw key s).cluster ≡ s.cluster
withdraw_keeps key s =
    let t : Export = record s { declared = remove s.declared key } in
    if_cluster (contains_key s.declared key) (waiting key t) s s.cluster (if_cluster (is_some s.lease) (record t { queue = with_key key t.queue }) t s.cluster refl refl) refl

pub link_keeps : (name : LinkName) (change : Link → Link) → KeepsName (with_link name change)
link_keeps link.Exporter change w = refl
link_keeps link.Remote change w = refl
link_keeps link.Local change w = refl
link_keeps link.Agent change w = refl

-- the remote at a place is changed, and all are shown again
shown_changed : (f : world.Remote → world.Remote) (cs : List Contents) (ws : List world.Remote) (rs : List Remote) (i : ℕ) (d : world.Remote) (r r' : Remote) → Changes f (get_or rs i r) r' → AreShown cs ws rs → AreShown cs (set ws i (f (get_or ws i d))) (set rs i r')
shown_changed f (c ∷ cs) (w ∷ ws) (x ∷ rs) zero d r r' so shown = (so c.history w shown.0, shown.1)
shown_changed f (c ∷ cs) (w ∷ ws) (x ∷ rs) (suc i) d r r' so shown = (shown.0, shown_changed f cs ws rs i d r r' so shown.1)
shown_changed f cs [] [] i d r r' so shown = tt
shown_changed f [] (w ∷ ws) (x ∷ rs) i d r r' so shown = absurd shown
shown_changed f [] [] (x ∷ rs) i d r r' so shown = absurd shown
shown_changed f (c ∷ cs) [] (x ∷ rs) i d r r' so shown = absurd shown
shown_changed f [] (w ∷ ws) [] i d r r' so shown = absurd shown
shown_changed f (c ∷ cs) (w ∷ ws) [] i d r r' so shown = absurd shown

-- and the names stay
names_same : (f : world.Remote → world.Remote) (cs : List Contents) (ws : List world.Remote) (rs : List Remote) (i : ℕ) (r r' : Remote) → KeepsName f → Changes f (get_or rs i r) r' → i < length rs → AreShown cs ws rs → map cluster_of (set rs i r') ≡ map cluster_of rs
names_same f cs ws rs i r r' keeps so lt shown =
    let old : IsShown (get_or cs i empty_contents).history (get_or ws i no_remote) (get_or rs i r) = shown_at cs ws rs i empty_contents no_remote r shown lt in
    let new = so _ _ old in
    map-set_same cluster_of rs i r' r (ap (λ (e : Export). e.cluster) new.exporter ∙ keeps (get_or ws i no_remote) ∙ sym (ap (λ (e : Export). e.cluster) old.exporter))

abbrev pub with_remote : Replay → ℕ → Remote → Replay
with_remote old place r = record old { remotes = with_item old.remotes place r }

pub changed : (does : Does) (place : ℕ) (f : world.Remote → world.Remote) (old : Replay) (r r' : Remote)
    → ((w : World) (more : List Outcome) → does w more ≡ (at_remote place f w, more))
    → KeepsName f → place < length old.remotes.items → r ≡ get_or old.remotes.items place r → Changes f r r'
    → MakesPlainly does old (with_remote old place r')
changed does place f old r r' goes keeps lt is so stores w has =
    let so' : Changes f (get_or old.remotes.items place r) r' = subst (λ (x : Remote). Changes f x r') is so in
    let names = names_same f (drop 1 w.stores) w.remotes old.remotes.items place r r' keeps so' lt has.shown in
    Leads-none does w (at_remote place f w) stores (λ n. HasWorld n (with_remote old place r') stores) (goes w) has.contents refl refl (record {
      many = has.many;
      opens = has.opens;
      few = subst (λ (n : ℕ). n ≤ 255) (sym (length-set old.remotes.items place r')) has.few;
      apart = subst (λ (ns : List (List ℕ)). IsDistinct same_bytes (old.local ∷ ns)) (sym names) has.apart;
      local = has.local;
      contents = has.contents;
      shown = shown_changed f (drop 1 w.stores) w.remotes old.remotes.items place no_remote r r' so' has.shown;
      reports = has.reports;
      text = has.text;
    })

-- the first so many are changed
pub front : (world.Remote → world.Remote) → ℕ → List world.Remote → List world.Remote
front f zero ws = ws
front f (suc n) [] = []
front f (suc n) (w ∷ ws) = f w ∷ front f n ws

front_more : (f : world.Remote → world.Remote) (n : ℕ) (ws : List world.Remote) (d : world.Remote) → front f (suc n) ws ≡ set (front f n ws) n (f (get_or (front f n ws) n d))
unfolding front
front_more f zero [] d = refl
front_more f zero (w ∷ ws) d = refl
front_more f (suc n) [] d = refl
front_more f (suc n) (w ∷ ws) d = ap (λ (l : List world.Remote). f w ∷ l) (front_more f n ws d)

front_all : (f : world.Remote → world.Remote) (n : ℕ) (ws : List world.Remote) → length ws ≤ n → front f n ws ≡ map f ws
unfolding front
front_all f zero [] le = refl
front_all f zero (w ∷ ws) le = absurd (omega (arith, le))
front_all f (suc n) [] le = refl
front_all f (suc n) (w ∷ ws) le = ap (λ (l : List world.Remote). f w ∷ l) (front_all f n ws (omega (arith, le)))

-- from all worlds' remotes that the old ones were, the new ones are those with the first so many changed
abbrev pub AreFront : (world.Remote → world.Remote) → ℕ → List Remote → List Remote → Type 0
AreFront f n old rs = (cs : List Contents) (ws : List world.Remote) → AreShown cs ws old → AreShown cs (front f n ws) rs × (map cluster_of rs ≡ map cluster_of old)

pub AreFront-none : (f : world.Remote → world.Remote) (rs : List Remote) → AreFront f 0 rs rs
unfolding front
AreFront-none f rs cs ws shown = (shown, refl)

pub AreFront-more : (f : world.Remote → world.Remote) (n : ℕ) (old rs : List Remote) (r r' : Remote) → KeepsName f → n < length rs → r ≡ get_or rs n r → Changes f r r' → AreFront f n old rs → AreFront f (n + 1) old (set rs n r')
unfolding front
AreFront-more f n old rs r r' keeps lt is so front_of cs ws shown =
    let so' : Changes f (get_or rs n r) r' = subst (λ (x : Remote). Changes f x r') is so in
    let now = front_of cs ws shown in
    let more : front f (n + 1) ws ≡ set (front f n ws) n (f (get_or (front f n ws) n no_remote)) = let e : n + 1 ≡ suc n = omega arith in subst (λ (k : ℕ). front f k ws ≡ set (front f n ws) n (f (get_or (front f n ws) n no_remote))) (sym e) (front_more f n ws no_remote) in (
      subst (λ (l : List world.Remote). AreShown cs l (set rs n r')) (sym more) (shown_changed f cs (front f n ws) rs n no_remote r r' so' now.0),
      names_same f cs (front f n ws) rs n r r' keeps so' lt now.0 ∙ now.1,
    )

-- all are changed
pub restarted_all : (f : world.Remote → world.Remote) (does : Does) (next : World → World) (n : ℕ) (old new : Replay)
    → ((w : World) (more : List Outcome) → does w more ≡ (next w, more))
    → ((w : World) → next w ≡ record w { remotes = map f w.remotes })
    → length old.remotes.items ≤ n → length new.remotes.items ≡ length old.remotes.items
    → new.local ≡ old.local → new.number ≡ old.number → new.reports ≡ old.reports → new.text ≡ old.text
    → AreFront f n old.remotes.items new.remotes.items → MakesPlainly does old new
unfolding front
restarted_all f does next n old new goes is le many local number reports text front_of stores w has =
    let now = front_of (drop 1 w.stores) w.remotes has.shown in
    let all : front f n w.remotes ≡ map f w.remotes = front_all f n w.remotes (omega (arith, le, as_many (drop 1 w.stores) w.remotes old.remotes.items has.shown)) in
    Leads-none does w (record w { remotes = map f w.remotes }) stores (λ v. HasWorld v new stores) (λ more. goes w more ∙ ap (λ (v : World). (v, more)) (is w)) has.contents refl refl (record {
      many = has.many;
      opens = has.opens;
      few = omega (arith, has.few, many);
      apart = subst (λ (x : List ℕ). IsDistinct same_bytes (x ∷ map cluster_of new.remotes.items)) (sym local) (subst (λ (ns : List (List ℕ)). IsDistinct same_bytes (old.local ∷ ns)) (sym now.1) has.apart);
      local = number ∙ has.local;
      contents = has.contents;
      shown = subst (λ (l : List world.Remote). AreShown (drop 1 w.stores) l new.remotes.items) all now.0;
      reports = reports ∙ has.reports;
      text = text ∙ has.text;
    })
