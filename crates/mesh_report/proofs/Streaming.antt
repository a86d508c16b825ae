-- What a report over a stream will say, through each of its calls.
use Rattle.std.proofs.Common.{◌≡◌, ℕ, ◌<◌, ◌≤◌, min, ◌⊎◌, List, [], ◌∷◌, ◌++◌, length, take, drop, Ok, Err, Result, sym, refl, ap, ◌∙◌, subst, inl, inr, append_assoc, append-nil, arith}
use Rattle.std.proofs.lemmas.List.{take-append-drop}
use Rattle.mesh_stream.specs.declared.event.Event.{Event}
use Rattle.mesh_stream.specs.declared.fault.LayerName.TheVariants.{Report as ReportName}
use Rattle.mesh_stream.specs.declared.fault.Refusal.{Refusal}
use Rattle.mesh_stream.specs.declared.stage.Standing.{Standing}
use Rattle.mesh_stream.specs.declared.stage.Standing.TheVariants.{Waiting, Ended, Faulty}
use Rattle.mesh_stream.specs.Meaning.{unclosed, closed, Outcome, outcome, Meaning, Port, textless, open_for, shut, Open, room, IsWaiting, Lawful}
use Rattle.mesh_stream.specs.Calls.{Roomy, Takes, Refused, Closed}
use Rattle.mesh_judge.specs.Accepting.{end_with, stands_over, refusal}
use Rattle.mesh_judge.proofs.Splitting.{judged_all}
use Rattle.mesh_report.specs.declared.totals.Totals.{Totals}
use Rattle.mesh_report.specs.declared.report.Report.{Report}
use Rattle.mesh_report.specs.Spelling.{report_text}
use Rattle.mesh_report.specs.Reporting.{totals_of, reported, Taken, TakesMore, GaveNone, MetFault, Halted, StaysPut, RanOutFrom}
use Rattle.mesh_report.specs.Streaming.{resumed, WillReport, report_of, Finished}
use Rattle.mesh_report.proofs.Running.{accepted_of, whole_met}

-- A report that ended or is at fault has nothing to resume.
resumed_settled : (es : List Event) (s : Standing) (o : Outcome Event) → (IsWaiting s → ⊥) → resumed es s o ≡ outcome es s
resumed_settled es Waiting o n = absurd (n tt)
resumed_settled es Ended o n = refl
resumed_settled es (Faulty f) o n = refl

end_settled : (es : List Event) (ns : List ℕ) → IsWaiting (end_with ReportName es ns) → ⊥
end_settled es [] w = w
end_settled es (n ∷ ns) w = w

over_settled : (es : List Event) (s : Standing) → (IsWaiting s → ⊥) → IsWaiting (stands_over ReportName es s) → ⊥
over_settled es Waiting n w = n w
over_settled es Ended n w = end_settled es _ w
over_settled es (Faulty f) n w = w

waits_or_not : (s : Standing) → (s ≡ Waiting) ⊎ (IsWaiting s → ⊥)
waits_or_not Waiting = inl refl
waits_or_not Ended = inr (λ w. w)
waits_or_not (Faulty f) = inr (λ w. w)

-- What will be said stays as the report runs out of events.
module _ (r s : Report) (p : Port) (G : Meaning Event) (q : Port) (H : Meaning Event) (law : Lawful q H) where
  module _ (es took : List Event) (h : Taken r es) (takes : TakesMore r s took) (t : List ℕ) where
    none_left : (below : Standing) → GaveNone r s p G q H took below → resumed (es ++ took) s.standing (H t closed) ≡ reported (outcome (es ++ (G t closed).items) (G t closed).stands)
    none_left below none = at (waits_or_not below)
      where
        there : reported (outcome (es ++ (G t closed).items) (G t closed).stands) ≡ reported (outcome ((es ++ took) ++ (H t closed).items) (H t closed).stands)
        there =
            ap (λ (o : Outcome Event). reported (outcome (es ++ o.items) o.stands)) (none.behind t closed)
            ∙ ap (λ (z : List Event). reported (outcome z (H t closed).stands)) (sym (append_assoc es took (H t closed).items))

        at : (below ≡ Waiting) ⊎ (IsWaiting below → ⊥) → resumed (es ++ took) s.standing (H t closed) ≡ reported (outcome (es ++ (G t closed).items) (G t closed).stands)
        at (inl e) = ap (λ (x : Standing). resumed (es ++ took) x (H t closed)) (none.standing es h ∙ ap (stands_over ReportName (es ++ took)) e) ∙ sym there
        at (inr n) =
            let same : H t closed ≡ outcome [] below = law.settled (λ w. n (subst (λ (o : Outcome Event). IsWaiting o.stands) none.none w)) t closed ∙ none.none in
            ap (λ (x : Standing). resumed (es ++ took) x (H t closed)) (none.standing es h)
            ∙ resumed_settled (es ++ took) (stands_over ReportName (es ++ took) below) (H t closed) (over_settled (es ++ took) below n)
            ∙ sym (there ∙ ap (λ (o : Outcome Event). reported (outcome ((es ++ took) ++ o.items) o.stands)) same
            ∙ ap (λ (z : List Event). reported (outcome z below)) (append-nil (es ++ took))
            ∙ judged_all (refusal 1024) ReportName (es ++ took) (accepted_of s (es ++ took) (takes es h)) below)

    fault_met : (e : Event) (c : _) → MetFault r s p G q H took e c → resumed (es ++ took) s.standing (H t closed) ≡ reported (outcome (es ++ (G t closed).items) (G t closed).stands)
    fault_met e c met =
        ap (λ (x : Standing). resumed (es ++ took) x (H t closed)) met.standing
        ∙ ap (outcome (es ++ took)) (sym met.standing)
        ∙ sym (whole_met r s p G q H took takes es h e c met t closed)

    halted_keeps : Halted r s p G q H took → resumed (es ++ took) s.standing (H t closed) ≡ reported (outcome (es ++ (G t closed).items) (G t closed).stands)
    halted_keeps (inl (below, none)) = none_left below none
    halted_keeps (inr (e, c, met)) = fault_met e c met

  put_keeps : StaysPut r s p G q H → (t : List ℕ) (o : Outcome Event) → WillReport G r t o → WillReport H s t o
  put_keeps put t o will = record {
    so_far = will.so_far;
    taken = subst (λ (x : Report). Taken x will.so_far) (sym put.report) will.taken;
    then_on =
        will.then_on ∙ ap (λ (x : Report). resumed will.so_far x.standing (G t closed)) (sym put.report)
        ∙ ap (resumed will.so_far s.standing) (sym (put.same t closed));
  }

  pub will_stay : RanOutFrom r s p G q H r.standing → (t : List ℕ) (o : Outcome Event) → WillReport G r t o → WillReport H s t o
  will_stay ran t o will = at r.standing refl ran
    where
      at : (st : Standing) → r.standing ≡ st → RanOutFrom r s p G q H st → WillReport H s t o
      at Waiting e (took, out) = record {
        so_far = will.so_far ++ took;
        taken = out.takes will.so_far will.taken;
        then_on = will.then_on ∙ ap (λ (x : Standing). resumed will.so_far x (G t closed)) e ∙ sym (halted_keeps will.so_far took will.taken out.takes t out.ends);
      }
      at Ended e put = put_keeps put t o will
      at (Faulty f) e put = put_keeps put t o will

  -- A report that stays open leaves the stage with room.
  pub stays_roomy : RanOutFrom r s p G q H r.standing → s.standing ≡ Waiting → Roomy q
  stays_roomy ran w = at r.standing refl ran
    where
      waits : (st : Standing) → s.standing ≡ st → (IsWaiting st → ⊥) → ⊥
      waits st e n = n (subst IsWaiting (sym w ∙ e) tt)

      at : (st : Standing) → r.standing ≡ st → RanOutFrom r s p G q H st → Roomy q
      at Waiting e (took, out) = ends out.ends
        where
          ends : Halted r s p G q H took → Roomy q
          ends (inl (below, none)) = none.roomy (subst IsWaiting (sym w) tt)
          ends (inr (x, c, met)) = absurd (waits _ met.standing (λ h. h))
      at Ended e put = absurd (waits Ended (subst (λ (x : Report). x.standing ≡ Ended) (sym put.report) e) (λ h. h))
      at (Faulty f) e put = absurd (waits (Faulty f) (subst (λ (x : Report). x.standing ≡ Faulty f) (sym put.report) e) (λ h. h))

-- Feeding moves bytes over.
module _ (r : Report) (q : Port) (H : Meaning Event) (q' : Port) (K : Meaning Event) (rest : List ℕ) where
  pub will_feed : (k : ℕ) → Takes q H rest k q' K → (t : List ℕ) (o : Outcome Event) → WillReport H r (rest ++ t) o → WillReport K r (drop k rest ++ t) o
  will_feed k fed t o will = record {
    so_far = will.so_far;
    taken = will.taken;
    then_on =
        will.then_on
        ∙ ap (λ (z : List ℕ). resumed will.so_far r.standing (H z closed)) (ap (λ (z : List ℕ). z ++ t) (sym (take-append-drop k rest)) ∙ append_assoc (take k rest) (drop k rest) t)
        ∙ ap (resumed will.so_far r.standing) (sym (fed.behind (drop k rest ++ t) closed));
  }

  -- a closed inlet heeds no text
  pub will_refuse : (e : Refusal) → Lawful q H → Refused q H e q' K → (t : List ℕ) (o : Outcome Event) → WillReport H r (rest ++ t) o → WillReport K r t o
  will_refuse e law no_feed t o will = record {
    so_far = will.so_far;
    taken = will.taken;
    then_on =
        will.then_on
        ∙ ap (resumed will.so_far r.standing) (law.shut_fixed no_feed.was_shut (rest ++ t) closed ∙ sym (law.shut_fixed no_feed.was_shut t closed) ∙ sym (no_feed.same t closed));
  }

  pub roomy_takes : (k : ℕ) → Takes q H rest k q' K → Roomy q → 0 < length rest → 1 ≤ k
  roomy_takes k fed ro l = at q fed.was_open fed.count ro
    where
      at : (p : Port) → Open p → k ≡ min (length rest) (room p) → Roomy p → 1 ≤ k
      at textless o e x = absurd o
      at (open_for n) o e x = omega arith
      at shut o e x = absurd o

-- Where the report takes no more, no byte matters.
pub will_settled : (r : Report) (H : Meaning Event) (rest : List ℕ) → (r.standing ≡ Waiting → ⊥) → (t : List ℕ) (o : Outcome Event) → WillReport H r (rest ++ t) o → WillReport H r t o
will_settled r H rest n t o will = record {
  so_far = will.so_far;
  taken = will.taken;
  then_on = will.then_on ∙ settled (H (rest ++ t) closed) ∙ sym (settled (H t closed));
}
  where
    settled : (z : Outcome Event) → resumed will.so_far r.standing z ≡ outcome will.so_far r.standing
    settled z = resumed_settled will.so_far r.standing z (λ w. at r.standing refl w)
      where
        at : (st : Standing) → r.standing ≡ st → IsWaiting st → ⊥
        at Waiting e w = n e
        at Ended e w = w
        at (Faulty f) e w = w

-- Closing, and then running out of events: what is reported is what was to come.
module _ (r s : Report) (p : Port) (G : Meaning Event) (q : Port) (H : Meaning Event) (v : Port) (K : Meaning Event) (law : Lawful p G) where
  closed_now : (a : Result (Unit {0}) Refusal) → Closed p G a q H → H [] unclosed ≡ G [] closed
  closed_now (Ok u) shuts = shuts.final [] unclosed
  closed_now (Err e) no_close = no_close.same [] unclosed ∙ sym (law.shut_fixed no_close.was_shut [] closed)

  finishes : (es : List Event) (st : Standing) (o : Outcome Event) → Taken s es → s.standing ≡ st → o ≡ outcome es st → Finished s o
  finishes es st o h w e = record {
    taken = subst (λ (z : Outcome Event). Taken s z.items) (sym e) h;
    standing = w ∙ sym (ap (λ (z : Outcome Event). z.stands) e);
    text =
        ap (λ (z : Totals). report_text z s.standing) h.totals ∙ ap (report_text (totals_of es)) w
        ∙ sym (ap report_of e);
  }

  put_finishes : StaysPut r s q H v K → (IsWaiting r.standing → ⊥) → (o : Outcome Event) → WillReport G r [] o → Finished s o
  put_finishes put n o will =
      finishes will.so_far r.standing o (subst (λ (x : Report). Taken x will.so_far) (sym put.report) will.taken) (ap (λ (x : Report). x.standing) put.report)
      (will.then_on ∙ resumed_settled will.so_far r.standing (G [] closed) n)

  pub will_finish : (a : Result (Unit {0}) Refusal) → Closed p G a q H → RanOutFrom r s q H v K r.standing → (o : Outcome Event) → WillReport G r [] o → Finished s o
  will_finish a cl ran o will = at r.standing refl ran
    where
      at : (st : Standing) → r.standing ≡ st → RanOutFrom r s q H v K st → Finished s o
      at Waiting e (took, out) =
          finishes (will.so_far ++ took) s.standing o (out.takes will.so_far will.taken) refl
          (will.then_on ∙ ap (λ (x : Standing). resumed will.so_far x (G [] closed)) e
          ∙ ap (λ (z : Outcome Event). reported (outcome (will.so_far ++ z.items) z.stands)) (sym (closed_now a cl))
          ∙ out.whole will.so_far will.taken)
      at Ended e put = put_finishes put (λ w. subst IsWaiting e w) o will
      at (Faulty f) e put = put_finishes put (λ w. subst IsWaiting e w) o will
