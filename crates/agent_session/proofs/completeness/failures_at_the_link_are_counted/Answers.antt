use Rattle.agent_session.proofs.completeness.failures_at_the_link_are_counted.Goals as goal

pub returns-clause-session : goal.returns-clause-session
returns-clause-session g c rules before after end served = record { reads = served.reads; writes = served.writes }

pub returns-clause-door : goal.returns-clause-door
returns-clause-door g c door rules before after end served = record { reads = served.reads; writes = served.writes }
