-- What is done for a request, and what no event behind a refusal does.
pub mod CacheCourses
pub mod CacheOpens
pub mod CacheWorks
pub mod Courses
pub mod ImportCourses
pub mod KeyCourses
pub mod KeyWorks
pub mod Opens
pub mod PromptWorks
pub mod RefusedCourses
pub mod Refusing
pub mod SessionCourses
pub mod TrustEnds
pub mod Works
