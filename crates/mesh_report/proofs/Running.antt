-- Runs of a report over a stage, event by event.
use Rattle.std.proofs.Common.{◌≡◌, ℕ, ◌+◌, ◌<◌, ◌≤◌, cond, ◌⊎◌, List, [], ◌∷◌, ◌++◌, length, take, Some, None, Option, Ok, Err, Result, sym, refl, ap, ◌∙◌, subst, inl, inr, append_assoc, append-nil, arith, length-append}
use Rattle.std.proofs.lemmas.List.{take_at}
use Rattle.std.proofs.lemmas.Bool.{le-leb, lt-leb}
use Rattle.mesh_stream.specs.declared.event.Event.{Event}
use Rattle.mesh_stream.specs.declared.fault.Cause.{Cause}
use Rattle.mesh_stream.specs.declared.fault.LayerName.TheVariants.{Report as ReportName}
use Rattle.mesh_stream.specs.declared.stage.Standing.{Standing}
use Rattle.mesh_stream.specs.declared.stage.Standing.TheVariants.{Waiting, Ended, Faulty}
use Rattle.mesh_stream.specs.Events.{place_of}
use Rattle.mesh_stream.specs.Meaning.{Mark, unclosed, Outcome, outcome, Meaning, Port, textless, open_for, shut, IsWaiting}
use Rattle.mesh_stream.specs.Calls.{SameKind, HandsOver, Idles}
use Rattle.mesh_stream.specs.Runs.{prepends}
use Rattle.mesh_judge.specs.declared.judge.Judge.{Judge}
use Rattle.mesh_judge.specs.declared.live.Live.{Live}
use Rattle.mesh_judge.specs.Windows.{Window, first, end_by, ending}
use Rattle.mesh_judge.specs.Judging.{KnowsList, live_limit, window_of, Stands}
use Rattle.mesh_judge.specs.Accepting.{refusal, Accepted, fault, stands_over}
use Rattle.mesh_judge.proofs.Splitting.{judged_after, judged_all, judged_stop}
use Rattle.mesh_report.specs.declared.report.Report.{Report}
use Rattle.mesh_report.specs.Reporting.{reported, once_asked_for, Taken, TakesMore, TakesNone, MetFault, Halted, GoesOn, Runs, RanFrom, RanOutFrom, Stops, Asked}

pub same_kind : (p q u : Port) → SameKind p q → SameKind q u → SameKind p u
same_kind textless q u a b = subst (λ (z : Port). SameKind z u) a b
same_kind (open_for n) q u (k, a) b = subst (λ (z : Port). SameKind z u) a b
same_kind shut q u a b = subst (λ (z : Port). SameKind z u) a b

pub kind_self : (p : Port) → SameKind p p
kind_self textless = refl
kind_self (open_for n) = (n, refl)
kind_self shut = refl

prepends_twice : {I : Type 0} (xs ys : List I) (o : Outcome I) → prepends xs (prepends ys o) ≡ prepends (xs ++ ys) o
prepends_twice xs ys o = ap (λ (z : List _). outcome z o.stands) (sym (append_assoc xs ys o.items))

-- The report r and the stage of port p and meaning G as the run began; s, q and H now. These events were taken so far.
pub record Running (r s : Report) (p : Port) (G : Meaning Event) (q : Port) (H : Meaning Event) (n : ℕ) : Type 0 where
  pub took : List Event
  pub count : length took ≡ n
  pub takes : TakesMore r s took
  pub port_kept : SameKind p q
  pub goes_on : GoesOn r s p G q H took

pub running_none : (r : Report) (p : Port) (G : Meaning Event) → r.standing ≡ Waiting → Running r r p G p G 0
running_none r p G w = record {
  took = [];
  count = refl;
  takes = λ es h. subst (Taken r) (sym (append-nil es)) h;
  port_kept = kind_self p;
  goes_on = record { behind = λ t m. refl; standing = w };
}

module _ (r s u : Report) (p : Port) (G : Meaning Event) (q : Port) (H : Meaning Event) (v : Port) (K : Meaning Event) (n : ℕ) (run : Running r s p G q H n) where
  running_one : Asked s u q H v K (Ok tt) → Running r u p G v K (n + 1)
  running_one (e, one, hands) = record {
    took = run.took ++ (e ∷ []);
    count = length-append run.took (e ∷ []) ∙ ap (λ k. k + 1) run.count;
    takes = λ es h. subst (Taken u) (append_assoc es run.took (e ∷ [])) (one.takes (es ++ run.took) (run.takes es h));
    port_kept = same_kind p q v run.port_kept hands.port_kept;
    goes_on = record {
      behind = λ t m. run.goes_on.behind t m ∙ ap (prepends run.took) (hands.first t m) ∙ prepends_twice run.took (e ∷ []) (K t m);
      standing = one.standing ∙ run.goes_on.standing;
    };
  }

  pub running_more : (a : Result (Unit {0}) Standing) → ((so : Standing) → a ≡ Err so → ⊥) → Asked s u q H v K a → Running r u p G v K (n + 1)
  running_more (Ok x) f asked = running_one asked
  running_more (Err so) f asked = absurd (f so refl)

  -- Nothing more is taken: the run halts behind the events taken.
  pub takes_no_more : Stops s u q H v K → TakesMore r u run.took
  takes_no_more (takes, kind, ends) es h = subst (Taken u) (append-nil (es ++ run.took)) (takes (es ++ run.took) (run.takes es h))

  pub halts : Stops s u q H v K → Halted r u p G v K run.took
  halts (takes, kind, inl (below, none)) = inl (
    below,
    record {
      behind = λ t m. run.goes_on.behind t m ∙ ap (prepends run.took) (none.behind t m);
      none = none.none;
      standing = λ es h. none.standing (es ++ run.took) (run.takes es h) ∙ ap (λ (z : List Event). stands_over ReportName z below) (append-nil (es ++ run.took));
      roomy = none.roomy;
    },
  )
  halts (takes, kind, inr (e, c, met)) = inr (
    e,
    c,
    record {
      behind = λ t m. run.goes_on.behind t m ∙ ap (prepends run.took) (met.behind t m) ∙ prepends_twice run.took (e ∷ []) (K t m);
      why = λ es h. subst (λ (z : List Event). refusal 1024 z e ≡ Some c) (append-nil (es ++ run.took)) (met.why (es ++ run.took) (run.takes es h));
      standing = met.standing;
    },
  )

-- One event is asked for: it is not accepted, or there is none. Only the standing of the report changes then.

same_taken : (s u : Report) (es : List Event) → u.judge ≡ s.judge → u.totals ≡ s.totals → Taken s es → Taken u es
same_taken s u es j t h = record {
  totals = t ∙ h.totals;
  knows = subst (λ (k : Judge (Unit {0})). KnowsList k es) (sym j) h.knows;
  limit = ap live_limit j ∙ h.limit;
}

pub met_fault : (r s : Report) (p : Port) (G : Meaning Event) (q : Port) (H : Meaning Event) (e : Event) (c : Cause) (l : ℕ) (x : Standing)
    → x ≡ fault ReportName c l → l ≡ place_of e → TakesNone r s e c → HandsOver p G e q H → Asked r s p G q H (Err x)
met_fault r s p G q H e c l x is at none hands u so = (
  (λ es h. same_taken s u (es ++ []) so.judge so.totals (none.takes es h)),
  hands.port_kept,
  inr (
    e,
    c,
    record {
      behind = λ t m. hands.first t m;
      why = λ es h. subst (λ (z : List Event). refusal 1024 z e ≡ Some c) (sym (append-nil es)) (none.why es h);
      standing = so.standing ∙ is ∙ ap (fault ReportName c) at;
    },
  ),
)

ending_waits : (w : Window (Unit {0})) (below : Standing) → IsWaiting (ending ReportName w below) → IsWaiting below
ending_waits w Waiting h = h
ending_waits w Ended h = at (first w.at w.highest) h
  where
    at : (o : Option (Live (Unit {0}))) → IsWaiting (end_by ReportName o) → ⊥
    at None x = x
    at (Some v) x = x
ending_waits w (Faulty f) h = h

pub gave_none : (r : Report) (p : Port) (G : Meaning Event) (q : Port) (H : Meaning Event) (below st : Standing)
    → Stands r.judge ReportName below st → Idles p G below q H → Asked r r p G q H (Err st)
gave_none r p G q H below st stands idles u so = (
  (λ es h. same_taken r u (es ++ []) so.judge so.totals (subst (Taken r) (sym (append-nil es)) h)),
  idles.port_kept,
  inl (
    below,
    record {
      behind = λ t m. sym (idles.same t m);
      none = idles.same [] unclosed ∙ idles.none;
      standing = λ es h. so.standing ∙ stands.by_list es h.knows ∙ ap (λ (z : List Event). stands_over ReportName z below) (sym (append-nil es));
      roomy = λ w. idles.roomy (ending_waits (window_of r.judge) below (subst IsWaiting (so.standing ∙ stands.by_window) w));
    },
  ),
)

-- The same by the whole list.

pub accepted_of : (r : Report) (es : List Event) → Taken r es → Accepted (refusal 1024) es
accepted_of r es h = subst (λ (l : ℕ). Accepted (refusal l) es) h.limit h.knows.accepted

module _ (r s : Report) (p : Port) (G : Meaning Event) (q : Port) (H : Meaning Event) (took : List Event) (takes : TakesMore r s took) (es : List Event) (h : Taken r es) where
  abbrev all_so_far : Outcome Event
  all_so_far = outcome (es ++ (G [] unclosed).items) (G [] unclosed).stands

  pub whole_met : (e : Event) (c : Cause) → MetFault r s p G q H took e c → (t : List ℕ) (m : Mark) → reported (outcome (es ++ (G t m).items) (G t m).stands) ≡ outcome (es ++ took) s.standing
  whole_met e c met t m =
      ap (λ (o : Outcome Event). reported (outcome (es ++ o.items) o.stands)) (met.behind t m)
      ∙ ap (λ (z : List Event). reported (outcome z (H t m).stands)) (regroup (H t m).items)
      ∙ judged_stop (refusal 1024) ReportName (es ++ took) (accepted_of s (es ++ took) (takes es h)) e c (met.why es h) (H t m).items (H t m).stands
      ∙ ap (outcome (es ++ took)) (sym met.standing)
    where
      regroup : (xs : List Event) → es ++ ((took ++ (e ∷ [])) ++ xs) ≡ (es ++ took) ++ (e ∷ xs)
      regroup xs = simp append_assoc

  pub whole_halted : Halted r s p G q H took → reported all_so_far ≡ outcome (es ++ took) s.standing
  whole_halted (inl (below, none)) =
      let g : G [] unclosed ≡ outcome took below = none.behind [] unclosed ∙ ap (prepends took) none.none ∙ ap (λ (z : List Event). outcome z below) (append-nil took) in
      ap (λ (o : Outcome Event). reported (outcome (es ++ o.items) o.stands)) g
      ∙ judged_all (refusal 1024) ReportName (es ++ took) (accepted_of s (es ++ took) (takes es h)) below
      ∙ ap (outcome (es ++ took)) (sym (none.standing es h))
  whole_halted (inr (e, c, met)) = whole_met e c met [] unclosed

  asked_past : (n : ℕ) (xs : List Event) (st : Standing) → length xs < n → once_asked_for n (outcome xs st) ≡ outcome xs st
  asked_past n xs st l = ap (λ b. cond b (outcome (take n xs) Waiting) (outcome xs st)) (lt-leb n (length xs) l)

  asked_within : (n : ℕ) (xs ys : List Event) (st : Standing) → length xs ≡ n → once_asked_for n (outcome (xs ++ ys) st) ≡ outcome xs Waiting
  asked_within n xs ys st e =
      let l : n ≤ length (xs ++ ys) = omega (arith, length-append xs ys) in
      ap (λ b. cond b (outcome (take n (xs ++ ys)) Waiting) (outcome (xs ++ ys) st)) (le-leb n (length (xs ++ ys)) l)
      ∙ ap (λ (z : List Event). outcome z Waiting) (take_at xs ys n e)

  pub whole_run : (n : ℕ) → ((length took ≡ n) × GoesOn r s p G q H took) ⊎ ((length took < n) × Halted r s p G q H took) → once_asked_for (length es + n) (reported all_so_far) ≡ outcome (es ++ took) s.standing
  whole_run n (inl (e, on)) =
      ap (λ (o : Outcome Event). once_asked_for (length es + n) (reported (outcome (es ++ o.items) o.stands))) (on.behind [] unclosed)
      ∙ ap (λ (z : List Event). once_asked_for (length es + n) (reported (outcome z (H [] unclosed).stands))) (sym (append_assoc es took (H [] unclosed).items))
      ∙ ap (once_asked_for (length es + n)) (judged_after (refusal 1024) ReportName (es ++ took) (accepted_of s (es ++ took) (takes es h)) (H [] unclosed).items (H [] unclosed).stands)
      ∙ asked_within (length es + n) (es ++ took) _ _ (length-append es took ∙ ap (λ k. length es + k) e)
      ∙ ap (outcome (es ++ took)) (sym on.standing)
  whole_run n (inr (l, ends)) =
      ap (once_asked_for (length es + n)) (whole_halted ends)
      ∙ asked_past (length es + n) (es ++ took) s.standing (omega (arith, length-append es took))

-- A run is over.

module _ (r s : Report) (p : Port) (G : Meaning Event) (q : Port) (H : Meaning Event) where
  runs : (n : ℕ) (took : List Event) → TakesMore r s took → SameKind p q → ((length took ≡ n) × GoesOn r s p G q H took) ⊎ ((length took < n) × Halted r s p G q H took) → Runs r s p G q H n took
  runs n took takes kind ends = record { takes = takes; port_kept = kind; ends = ends; whole = λ es h. whole_run r s p G q H took takes es h n ends }

  at_standing : (st : Standing) (n k : ℕ) → st ≡ Waiting → (took : List Event) × (k ≡ length took) × Runs r s p G q H n took → RanFrom r s p G q H st n k
  at_standing st n k e h = subst (λ (x : Standing). RanFrom r s p G q H x n k) (sym e) h

  pub ran_all : (n : ℕ) → r.standing ≡ Waiting → Running r s p G q H n → RanFrom r s p G q H r.standing n n
  ran_all n w run = at_standing r.standing n n w (run.took, sym run.count, runs n run.took run.takes run.port_kept (inl (run.count, run.goes_on)))

module _ (r s u : Report) (p : Port) (G : Meaning Event) (q : Port) (H : Meaning Event) (v : Port) (K : Meaning Event) (w : r.standing ≡ Waiting) (k : ℕ) (run : Running r s p G q H k) (none : Stops s u q H v K) where
  halted_kind : SameKind p v
  halted_kind = same_kind p q v run.port_kept none.1

  pub ran_short : (n : ℕ) → k < n → RanFrom r u p G v K r.standing n k
  ran_short n l =
      at_standing r u p G v K r.standing n k w (
        run.took,
        sym run.count,
        runs r u p G v K n run.took (takes_no_more r s u p G q H v K k run none) halted_kind
            (inr (subst (λ (x : ℕ). x < n) (sym run.count) l, halts r s u p G q H v K k run none)),
      )

  pub ran_out : RanOutFrom r u p G v K r.standing
  ran_out =
      let takes = takes_no_more r s u p G q H v K k run none in
      let ends = halts r s u p G q H v K k run none in
      subst (RanOutFrom r u p G v K) (sym w)
      (run.took, record { takes = takes; port_kept = halted_kind; ends = ends; whole = λ es h. whole_halted r u p G v K run.took takes es h ends })
