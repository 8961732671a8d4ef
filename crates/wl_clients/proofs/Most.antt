-- What is marked at most from the first desktop of a happening to its last is marked at most through the desktops on the way.
use Rattle.std.proofs.Common.{◌≡◌, ℕ, Bool, true, false, List, [], ◌∷◌, Option, Some, None, cond, refl, ap, ap₂, sym, subst, ◌∙◌, inl, inr}
use Rattle.std.specs.Prelude.{ℤ, ◌==◌, ◌&&◌, ◌||◌, ◌⊎◌, filter, not}
use Rattle.std.specs.List.{list_any}
use Rattle.std.proofs.lemmas.Bool.{and_from, eqb-true, or_left, or_right}
use Rattle.spec_desktop.specs.Windows.{Window, contains}
use Rattle.spec_desktop.specs.Peer.{ended}
use Rattle.spec_desktop.specs.Told.{Output}
use Rattle.spec_desktop.specs.declared.cause.Cause.TheVariants.{Memory}
use Rattle.spec_desktop.specs.Desktop.{Desktop, Resident, client_at}
use Rattle.spec_desktop.specs.Happenings.{Happening, Leads, Message, Receive, ReceivesAt, Single, Starve, StarvesAt}
use Rattle.spec_desktop.specs.Marks.{AreDistinct, has_changed_tree, has_same_record, in_output, is_allowed_at, is_raised, same_records}
use Rattle.spec_desktop.specs.Moments.{marks_at_least, marks_at_least_of, marks_at_least_through, marks_at_most, marks_at_most_of, marks_at_most_through}
use Rattle.spec_desktop.specs.Settling.{Midstep, becomes, unstruck}
use Rattle.spec_desktop.specs.Stacked.{all_windows}
use Rattle.spec_desktop.specs.Through.{ending_through, settling_through}
use Rattle.law_desktop.proofs.Marks.Painted.{contains-same}
use Rattle.law_desktop.proofs.Marks.Stacks.{equal-numbers, fields, recorded}
use Rattle.law_desktop.proofs.Marks.Through.{leads-output, marked_through}
use Rattle.law_desktop.proofs.Runs.Following.{Along, Follow, ending-follows, settling-follows}
use Rattle.law_desktop.proofs.Runs.Through.{happened, served}
use Rattle.law_desktop.proofs.Truth.{and-left, and-right, differ, either-more}
use Rattle.law_desktop.proofs.Lists.Tests.{any-more}

-- ---- the desktops of a happening

-- its own change leads to one desktop, and ends and settlings on from there
leads-follow : (h : Happening) (d : Desktop) (path : List Desktop) (new : Desktop) → Leads h d path new → Follow path new
leads-follow (Receive c piece) d path new h = at (client_at c d) h
  where
    at : (o : Option Resident) → ReceivesAt c piece o d path new → Follow path new
    at None h = absurd h
    at (Some r) h = (new, [], h.2, refl)
leads-follow (Message c) d path new h =
    (served (settling_through path new) (settling_through path new) (λ (p : Follow path new). λ (mid : Midstep). Unit {0}) (λ (p : Follow path new). λ (mid : Midstep). Unit {0})
    (λ mid k. (settling-follows path new mid k, tt)) (λ mid k. (settling-follows path new mid k, tt)) c (client_at c d) d h).0
leads-follow (Starve c) d path new h = at (client_at c d) h
  where
    at : (o : Option Resident) → StarvesAt c o d path new → Follow path new
    at None h = absurd h
    at (Some r) h = settling-follows path new (unstruck (becomes c r (ended Memory r.peer) d)) h.1
leads-follow (Single act done) d path new h =
    (happened (settling_through path new) (ending_through path new) (λ (p : Follow path new). λ (mid : Midstep). Unit {0}) (λ (p : Follow path new). λ (mid : Midstep). Unit {0})
    (λ mid k. (settling-follows path new mid k, tt)) (λ mid k. (ending-follows path new mid k, tt)) act done d h).0

-- ---- records

record-self : (w : Window) → has_same_record w w ≡ true
record-self w = recorded w w (record { client = refl; surface = refl; x = refl; y = refl; width = refl; height = refl; transform = refl; scale = refl })

record-then : (w v x : Window) → has_same_record w v ≡ true → has_same_record v x ≡ true → has_same_record w x ≡ true
record-then w v x e f =
    let a = fields w v e in
    let b = fields v x f in
    recorded w x
    (record {
      client = a.client ∙ b.client;
      surface = a.surface ∙ b.surface;
      x = a.x ∙ b.x;
      y = a.y ∙ b.y;
      width = a.width ∙ b.width;
      height = a.height ∙ b.height;
      transform = a.transform ∙ b.transform;
      scale = a.scale ∙ b.scale;
    })

records-self : (ws : List Window) → same_records ws ws ≡ true
records-self [] = refl
records-self (w ∷ ws) = and_from (has_same_record w w) (same_records ws ws) (record-self w) (records-self ws)

records-then : (ws vs xs : List Window) → same_records ws vs ≡ true → same_records vs xs ≡ true → same_records ws xs ≡ true
records-then [] [] [] e f = refl
records-then [] [] (x ∷ xs) e f = absurd (differ f)
records-then [] (v ∷ vs) xs e f = absurd (differ e)
records-then (w ∷ ws) [] xs e f = absurd (differ e)
records-then (w ∷ ws) (v ∷ vs) [] e f = absurd (differ f)
records-then (w ∷ ws) (v ∷ vs) (x ∷ xs) e f =
    and_from (has_same_record w x) (same_records ws xs)
    (record-then w v x (and-left (has_same_record w v) (same_records ws vs) e) (and-left (has_same_record v x) (same_records vs xs) f))
    (records-then ws vs xs (and-right (has_same_record w v) (same_records ws vs) e) (and-right (has_same_record v x) (same_records vs xs) f))

records-turned : (ws vs : List Window) → same_records ws vs ≡ true → same_records vs ws ≡ true
records-turned [] [] e = refl
records-turned [] (v ∷ vs) e = absurd (differ e)
records-turned (w ∷ ws) [] e = absurd (differ e)
records-turned (w ∷ ws) (v ∷ vs) e =
    and_from (has_same_record v w) (same_records vs ws) (turned (and-left (has_same_record w v) (same_records ws vs) e))
    (records-turned ws vs (and-right (has_same_record w v) (same_records ws vs) e))
  where
    turned : has_same_record w v ≡ true → has_same_record v w ≡ true
    turned same =
        let f = fields w v same in
        recorded v w
        (record {
          client = sym f.client;
          surface = sym f.surface;
          x = sym f.x;
          y = sym f.y;
          width = sym f.width;
          height = sym f.height;
          transform = sym f.transform;
          scale = sym f.scale;
        })

-- ---- one tree

-- the window is of the tree of this root of a client
abbrev of : ℕ → ℕ → Window → Bool
of c root w = (c == w.owner.client) && (root == w.owner.root)

abbrev tree : ℕ → ℕ → List Window → List Window
tree c root ws = filter (of c root) ws

module _ (x y : ℤ) where
  -- a window of it contains the point
  abbrev shows : ℕ → ℕ → List Window → Bool
  shows c root ws = list_any (λ w. of c root w && contains w x y) ws

  shows-tree : (c root : ℕ) (ws : List Window) → shows c root ws ≡ list_any (λ w. contains w x y) (tree c root ws)
  shows-tree c root [] = refl
  shows-tree c root (w ∷ ws) = at (of c root w) (shows-tree c root ws)
    where
      at : (b : Bool) → shows c root ws ≡ list_any (λ w. contains w x y) (tree c root ws)
          → ((b && contains w x y) || shows c root ws) ≡ list_any (λ w. contains w x y) (cond b (w ∷ tree c root ws) (tree c root ws))
      at true later = ap (λ more. contains w x y || more) later
      at false later = later

  records-show : (ws vs : List Window) → same_records ws vs ≡ true → list_any (λ w. contains w x y) ws ≡ list_any (λ w. contains w x y) vs
  records-show [] [] e = refl
  records-show [] (v ∷ vs) e = absurd (differ e)
  records-show (w ∷ ws) [] e = absurd (differ e)
  records-show (w ∷ ws) (v ∷ vs) e =
      ap₂ (λ (a b : Bool). a || b) (contains-same x y w v (and-left (has_same_record w v) (same_records ws vs) e))
      (records-show ws vs (and-right (has_same_record w v) (same_records ws vs) e))

  -- where its records are the same, so is whether one does
  same-shows : (c root : ℕ) (ws vs : List Window) → same_records (tree c root ws) (tree c root vs) ≡ true → shows c root ws ≡ true → shows c root vs ≡ true
  same-shows c root ws vs same there =
      shows-tree c root vs ∙ (sym (records-show (tree c root ws) (tree c root vs) same) ∙ (sym (shows-tree c root ws) ∙ there))

  -- ---- what is allowed to be marked

  -- One of these windows is allowed to be marked there: the tree of a root changed of which one contains the point.
  allowed-shows : (old new ws : List Window) → list_any (is_allowed_at old new None x y) ws ≡ true
      → (c : ℕ) × (root : ℕ) × (shows c root ws ≡ true) × (same_records (tree c root old) (tree c root new) ≡ false)
  allowed-shows old new [] e = absurd (differ e)
  allowed-shows old new (w ∷ ws) e = at (is_allowed_at old new None x y w) refl (allowed-shows old new ws)
    where
      changed : (b : Bool) → (not b || false) ≡ true → b ≡ false
      changed true e = absurd (differ e)
      changed false e = refl

      at : (b : Bool) → is_allowed_at old new None x y w ≡ b
          → (list_any (is_allowed_at old new None x y) ws ≡ true → (c : ℕ) × (root : ℕ) × (shows c root ws ≡ true) × (same_records (tree c root old) (tree c root new) ≡ false))
          → (c : ℕ) × (root : ℕ) × (shows c root (w ∷ ws) ≡ true) × (same_records (tree c root old) (tree c root new) ≡ false)
      at true here more = (
        w.owner.client,
        w.owner.root,
        or_left (of w.owner.client w.owner.root w && contains w x y) (shows w.owner.client w.owner.root ws)
            (and_from (of w.owner.client w.owner.root w) (contains w x y)
            (and_from (w.owner.client == w.owner.client) (w.owner.root == w.owner.root) (equal-numbers w.owner.client w.owner.client refl) (equal-numbers w.owner.root w.owner.root refl))
            (and-left (contains w x y) (has_changed_tree old new w || false) here)),
        changed (same_records (tree w.owner.client w.owner.root old) (tree w.owner.client w.owner.root new)) (and-right (contains w x y) (has_changed_tree old new w || false) here),
      )
      at false here more =
          let later = more (ap (λ b. b || list_any (is_allowed_at old new None x y) ws) (sym here) ∙ e) in
          (later.0, later.1, or_right (of later.0 later.1 w && contains w x y) (shows later.0 later.1 ws) later.2, later.3)

  -- and the other way
  shows-allowed : (raised : Option (ℕ × ℕ)) (c root : ℕ) (old new ws : List Window) → same_records (tree c root old) (tree c root new) ≡ false → shows c root ws ≡ true
      → list_any (is_allowed_at old new raised x y) ws ≡ true
  shows-allowed raised c root old new ws changed there =
      any-more (λ w. of c root w && contains w x y) (is_allowed_at old new raised x y)
      (λ w f. and_from (contains w x y) (has_changed_tree old new w || is_raised raised w) (and-right (of c root w) (contains w x y) f)
      (or_left (has_changed_tree old new w) (is_raised raised w) (its w (and-left (of c root w) (contains w x y) f)))) ws there
    where
      its : (w : Window) → of c root w ≡ true → has_changed_tree old new w ≡ true
      its w is =
          let client = eqb-true c w.owner.client (and-left (c == w.owner.client) (root == w.owner.root) is) in
          let of_root = eqb-true root w.owner.root (and-right (c == w.owner.client) (root == w.owner.root) is) in
          ap (λ b. not b) (ap₂ (λ (n k : ℕ). same_records (tree n k old) (tree n k new)) (sym client) (sym of_root) ∙ changed)

  -- ---- along the way

  -- These desktops, all with the same output, lead to the last.
  abbrev IsWay : Desktop → List Desktop → Desktop → Type 0
  IsWay d [] e = e ≡ d
  IsWay d (m ∷ ms) e = (m.output ≡ d.output) × IsWay m ms e

  -- A tree that has changed from the first to the last has changed in one of the steps, and there the point may be marked.
  changed-through : (c root : ℕ) (d : Desktop) (path : List Desktop) (e : Desktop) (raised : Option (ℕ × ℕ)) → IsWay d path e → in_output d.output.width d.output.height x y ≡ true
      → (shows c root (all_windows d) ≡ true) ⊎ (shows c root (all_windows e) ≡ true) → same_records (tree c root (all_windows d)) (tree c root (all_windows e)) ≡ false
      → marks_at_most_through all_windows raised d path x y ≡ true
  changed-through c root d [] e raised way inside there changed =
      absurd (differ (sym changed ∙ ap (λ (x : Desktop). same_records (tree c root (all_windows d)) (tree c root (all_windows x))) way ∙ records-self (tree c root (all_windows d))))
  changed-through c root d (m ∷ ms) e raised way inside there changed =
      at (λ there changed. changed-through c root m ms e None way.1 inside-next there changed)
      (same_records (tree c root (all_windows d)) (tree c root (all_windows m))) refl (same_records (tree c root (all_windows m)) (tree c root (all_windows e))) refl there
    where
      inside-next : in_output m.output.width m.output.height x y ≡ true
      inside-next = ap (λ (o : Output). in_output o.width o.height x y) way.0 ∙ inside

      later : marks_at_most_through all_windows None m ms x y ≡ true → marks_at_most_through all_windows raised d (m ∷ ms) x y ≡ true
      later marked = or_right (marks_at_most_of all_windows d m raised x y) _ marked

      here : (list_any (is_allowed_at (all_windows d) (all_windows m) raised x y) (all_windows d)
          || list_any (is_allowed_at (all_windows d) (all_windows m) raised x y) (all_windows m)) ≡ true
          → marks_at_most_through all_windows raised d (m ∷ ms) x y ≡ true
      here allowed =
          or_left (marks_at_most_of all_windows d m raised x y) _
          (or_right (marks_at_least d m x y) _ (and_from (in_output d.output.width d.output.height x y) _ inside allowed))

      at : ((shows c root (all_windows m) ≡ true) ⊎ (shows c root (all_windows e) ≡ true) → same_records (tree c root (all_windows m)) (tree c root (all_windows e)) ≡ false
          → marks_at_most_through all_windows None m ms x y ≡ true)
          → (first : Bool) → same_records (tree c root (all_windows d)) (tree c root (all_windows m)) ≡ first
          → (second : Bool) → same_records (tree c root (all_windows m)) (tree c root (all_windows e)) ≡ second
          → (shows c root (all_windows d) ≡ true) ⊎ (shows c root (all_windows e) ≡ true)
          → marks_at_most_through all_windows raised d (m ∷ ms) x y ≡ true
      at next true same true also there =
          absurd (differ (sym changed ∙ records-then (tree c root (all_windows d)) (tree c root (all_windows m)) (tree c root (all_windows e)) same also))
      at next true same false changed (inl before) = later (next (inl (same-shows c root (all_windows d) (all_windows m) same before)) changed)
      at next true same false changed (inr after) = later (next (inr after) changed)
      at next false changed second is (inl before) =
          here (or_left (list_any (is_allowed_at (all_windows d) (all_windows m) raised x y) (all_windows d)) _
          (shows-allowed raised c root (all_windows d) (all_windows m) (all_windows d) changed before))
      at next false changed true same (inr after) =
          here (or_right (list_any (is_allowed_at (all_windows d) (all_windows m) raised x y) (all_windows d)) _
          (shows-allowed raised c root (all_windows d) (all_windows m) (all_windows m) changed
          (same-shows c root (all_windows e) (all_windows m) (records-turned (tree c root (all_windows m)) (tree c root (all_windows e)) same) after)))
      at next false changed false more (inr after) = later (next (inr after) more)

  -- ---- a happening

  -- What is marked at least through some desktops is marked at most through them, whatever a press moved up.
  least-most-through : (d : Desktop) (path : List Desktop) (raised : Option (ℕ × ℕ)) → marks_at_least_through all_windows d path x y ≡ true
      → marks_at_most_through all_windows raised d path x y ≡ true
  least-most-through d [] raised marked = marked
  least-most-through d (e ∷ es) raised marked =
      either-more (marks_at_least_of all_windows d e x y) (marks_at_least_through all_windows e es x y)
      (marks_at_most_of all_windows d e raised x y) (marks_at_most_through all_windows None e es x y) marked
      (λ f. or_left (marks_at_least_of all_windows d e x y) _ f) (least-most-through e es None)

  along-way : (d : Desktop) (es : List Desktop) (new : Desktop) → Along d es new → IsWay d es new
  along-way d [] new h = h
  along-way d (e ∷ es) new h = (h.0, along-way e es new h.2)

  way-output : (d : Desktop) (es : List Desktop) (new : Desktop) → IsWay d es new → new.output ≡ d.output
  way-output d [] new h = ap (λ (x : Desktop). x.output) h
  way-output d (e ∷ es) new h = way-output e es new h.1 ∙ h.0

  leads-way : (h : Happening) (d : Desktop) (path : List Desktop) (new : Desktop) → Leads h d path new → IsWay d path new
  leads-way h d path new leads =
      let follow = leads-follow h d path new leads in
      let way = along-way follow.0 follow.1 new follow.3 in
      subst (λ (p : List Desktop). IsWay d p new) (sym follow.2) (sym (way-output follow.0 follow.1 new way) ∙ leads-output h d path new leads, way)

  -- What is marked at most from the first desktop of a happening to its last, where no press moved a toplevel up, is marked at most through the
  -- desktops on the way.
  pub most-through : (h : Happening) (d : Desktop) (path : List Desktop) (e : Desktop) (raised : Option (ℕ × ℕ)) → AreDistinct (all_windows d) → Leads h d path e
      → marks_at_most d e None x y ≡ true → marks_at_most_through all_windows raised d path x y ≡ true
  most-through h d path e raised apart leads marked = by (marks_at_least d e x y) refl marked
    where
      least : (b : Bool) → marks_at_least_through all_windows d path x y ≡ b → marks_at_least d e x y ≡ true → marks_at_most_through all_windows raised d path x y ≡ true
      least true through here = least-most-through d path raised through
      least false none here = absurd (differ (sym (marked_through h d path e x y apart leads none) ∙ here))

      allowed : in_output d.output.width d.output.height x y ≡ true → (b : Bool) → list_any (is_allowed_at (all_windows d) (all_windows e) None x y) (all_windows d) ≡ b
          → (b || list_any (is_allowed_at (all_windows d) (all_windows e) None x y) (all_windows e)) ≡ true → marks_at_most_through all_windows raised d path x y ≡ true
      allowed inside true before either =
          let tree = allowed-shows (all_windows d) (all_windows e) (all_windows d) before in
          changed-through tree.0 tree.1 d path e raised (leads-way h d path e leads) inside (inl tree.2) tree.3
      allowed inside false none after =
          let tree = allowed-shows (all_windows d) (all_windows e) (all_windows e) after in
          changed-through tree.0 tree.1 d path e raised (leads-way h d path e leads) inside (inr tree.2) tree.3

      by : (b : Bool) → marks_at_least d e x y ≡ b
          → (b || (in_output d.output.width d.output.height x y && (list_any (is_allowed_at (all_windows d) (all_windows e) None x y) (all_windows d)
          || list_any (is_allowed_at (all_windows d) (all_windows e) None x y) (all_windows e)))) ≡ true → marks_at_most_through all_windows raised d path x y ≡ true
      by true here marked = least (marks_at_least_through all_windows d path x y) refl here
      by false none marked =
          allowed (and-left (in_output d.output.width d.output.height x y) _ marked) (list_any (is_allowed_at (all_windows d) (all_windows e) None x y) (all_windows d)) refl
          (and-right (in_output d.output.width d.output.height x y) _ marked)
